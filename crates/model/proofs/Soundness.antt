-- What makes a record sound, part by part.
use mathlib.Core.Bool.{true, not, ◌&&◌}
use mathlib.Core.Path.{◌≡◌}
use borrow.Author.Tests.{eq-eqb, eqb-true}
use lib.Dec.{leb, eqb}
use lib.ListN.{length}
use Rattle.octets.specs.Octets.{same}
use Rattle.octets.proofs.Booleans.{both_true}
use Rattle.octets.proofs.Same.{same_self, same_equal}
use Rattle.framing.specs.Identity.{default_id, all_alphanumeric}
use Rattle.store.specs.Laws as stored
use Rattle.rows.specs.Layout.{store_size}
use Rattle.store.specs.Layout.{value_of}
use Rattle.store.specs.Sound as rows
use Rattle.schedule.specs.Entries as entries
use Rattle.schedule.specs.Laws as scheduled
use Rattle.model.specs.Record.{is_id, is_mode, is_sized, is_unit, unit_type, unit_of, entries_sound, password_of, sound}
use Rattle.model.specs.declared.Board.{Board}
use Rattle.model.specs.declared.Parameters.{Parameters}

-- parameters as long as the code has them
pub record Sized (parameters : Parameters) : Type 0 where
  pub store : stored.Sized parameters.store
  pub schedule : scheduled.Sized parameters.schedule

is_sized_lem : (parameters : Parameters) → is_sized parameters ≡ true → Sized parameters
is_sized_lem parameters h =
    let both = both_true (eqb (length parameters.store.bytes) store_size) _ h in
    record { store = eqb-true _ _ both.0; schedule = eqb-true _ _ both.1 }

sized_is : (parameters : Parameters) → Sized parameters → is_sized parameters ≡ true
sized_is parameters sized = λ i. eq-eqb (length parameters.store.bytes) store_size sized.store i && eq-eqb (length parameters.schedule.entries) entries.entry_count sized.schedule i

pub record SoundParts (board : Board) : Type 0 where
  pub id : is_id board.id ≡ true
  pub size : leb board.size 8 ≡ true
  pub password : all_alphanumeric (password_of board) ≡ true
  pub mode : is_mode board.mode ≡ true
  pub sized : Sized board.parameters
  pub unit : is_unit (unit_of board) ≡ true
  pub scheduled : entries_sound board.parameters ≡ true
  pub held : rows.sound board.parameters.store ≡ true
  pub own_id : value_of board.parameters.store 0x007C ≡ board.id
  pub unit_type_lem : value_of board.parameters.store 0x00B9 ≡ unit_type (unit_of board)

pub sound_parts : (board : Board) → sound board ≡ true → SoundParts board
unfolding sound
sound_parts board h =
    let seven = both_true _ (same (value_of board.parameters.store 0x00B9) (unit_type (unit_of board))) h in
    let six = both_true _ (same (value_of board.parameters.store 0x007C) board.id) seven.0 in
    let five = both_true _ (rows.sound board.parameters.store) six.0 in
    let four = both_true _ (entries_sound board.parameters) five.0 in
    let typed = both_true _ (is_unit (unit_of board)) four.0 in
    let size = both_true _ (is_sized board.parameters) typed.0 in
    let three = both_true _ (is_mode board.mode) size.0 in
    let two = both_true _ (all_alphanumeric (password_of board)) three.0 in
    let one = both_true (is_id board.id) (leb board.size 8) two.0 in
    record {
      id = one.0;
      size = one.1;
      password = two.1;
      mode = three.1;
      sized = is_sized_lem board.parameters size.1;
      unit = typed.1;
      scheduled = four.1;
      held = five.1;
      own_id = same_equal _ _ six.1;
      unit_type_lem = same_equal _ _ seven.1;
    }

pub parts_sound : (board : Board) → SoundParts board → sound board ≡ true
unfolding sound
parts_sound board parts =
    rw (parts.id, parts.size, parts.password, parts.mode, sized_is board.parameters parts.sized, parts.unit, parts.scheduled, parts.held, parts.own_id, parts.unit_type_lem, same_self board.id, same_self (unit_type (unit_of board)))

pub id_length : (board : Board) → sound board ≡ true → length board.id ≡ 16
id_length board h =
    eqb-true _ _ (both_true (eqb (length board.id) 16) (not (same board.id default_id)) (sound_parts board h).id).0
