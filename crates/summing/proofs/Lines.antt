-- The lines of counts, place by place: how much room they leave, and how they are written.
use Prim.Native.Nat.{ℕ, ◌+◌, ◌-◌, ◌<◌, ◌≤◌}
use native.Mathlib.Omega.{arith}
use mathlib.Core.Bool.{Bool}
use mathlib.Core.List.{List}
use mathlib.Core.Path.{◌≡◌, refl, sym, ap, ◌∙◌}
use borrow.Author.Tests.{le-leb, lt-leb}
use lib.ListN.{length, length-append}
use Rattle.std.specs.Prelude.{Some, None}
use Rattle.octets.specs.Octets.{overwrite, Overwrites}
use Rattle.octets.proofs.Overwriting.{overwrites_after}
use Rattle.tool.proofs.Texts.{overwrite_nothing}
use Rattle.summing.specs.Text.{each, line_at, lines_of, room_after, WritesLines}
use Rattle.summing.proofs.Each.{each_more, each_grows}

-- the lines of the places before this one
abbrev pub before : List ℕ → ℕ → List ℕ
before counts place = each place (line_at counts)

module _ (counts : List ℕ) (place : ℕ) where
  before_within : place ≤ length counts → length (before counts place) ≤ length (lines_of counts)
  unfolding lines_of
  before_within h = each_grows (line_at counts) h

  before_all : place ≤ length counts → length counts ≤ place → lines_of counts ≡ before counts place
  unfolding lines_of
  before_all h k =
      let all : length counts ≡ place = omega arith in
      ap (λ (n : ℕ). before counts n) all

  before_size : length (before counts (place + 1)) ≡ length (before counts place) + length (line_at counts place)
  before_size = ap length (each_more place (line_at counts)) ∙ length-append (before counts place) (line_at counts place)

line_within :
    (counts : List ℕ) (place : ℕ) → place < length counts
    → length (before counts place) + length (line_at counts place) ≤ length (lines_of counts)
line_within counts place h = omega (arith, before_size counts place, before_within counts (place + 1) (omega arith))

-- so much room is left after the lines of the places before
pub record RoomLeft (space : ℕ) (counts : List ℕ) (left place : ℕ) : Type 0 where
  pub inside : place ≤ length counts
  pub spent : left + length (before counts place) ≡ space

module _ (space : ℕ) (counts : List ℕ) where
  pub room_first : RoomLeft space counts space 0
  unfolding each
  room_first = record { inside = omega arith; spent = omega arith }

  module _ {left place : ℕ} (so_far : RoomLeft space counts left place) where
    pub room_none : place < length counts → left < length (line_at counts place) → None ≡ room_after space (lines_of counts)
    room_none h k = rw (lt-leb (length (lines_of counts)) space (omega (arith, so_far.spent, line_within counts place h)))

    pub room_more : place < length counts → length (line_at counts place) ≤ left → RoomLeft space counts (left - length (line_at counts place)) (place + 1)
    room_more h k = record { inside = omega arith; spent = omega (arith, so_far.spent, before_size counts place) }

    pub room_left : length counts ≤ place → Some left ≡ room_after space (lines_of counts)
    room_left h =
        let all = ap length (before_all counts place so_far.inside h) in
        rw (le-leb (length (lines_of counts)) space (omega (arith, so_far.spent)))
        (ap Some (omega (arith, so_far.spent)))

-- the lines of the places before are written, and end at `at`
pub record Written (text counts now : List ℕ) (at place : ℕ) : Type 0 where
  pub inside : place ≤ length counts
  pub ends : at ≡ length (before counts place)
  pub stored : now ≡ overwrite text 0 (before counts place)

module _ (text counts : List ℕ) where
  pub written_none : Written text counts text 0 0
  unfolding each
  written_none = record { inside = omega arith; ends = refl; stored = sym (overwrite_nothing text 0) }

  module _ {now : List ℕ} {at place : ℕ} (so_far : Written text counts now at place) where
    module _ (fits : length (lines_of counts) ≤ length text) where
      pub next_ends : place < length counts → at + length (line_at counts place) ≤ length text
      next_ends h = omega (arith, so_far.ends, line_within counts place h)

      pub written_more :
          place < length counts → {answer : Bool} {after : List ℕ} → Overwrites now at (line_at counts place) answer after
          → Written text counts after (at + length (line_at counts place)) (place + 1)
      written_more h done =
          record {
            inside = omega arith;
            ends = omega (arith, so_far.ends, before_size counts place);
            stored =
                overwrites_after text 0 (before counts place) done (omega (arith, so_far.ends)) so_far.stored (next_ends h)
                ∙ ap (overwrite text 0) (sym (each_more place (line_at counts)));
          }

    pub written_all : length counts ≤ place → WritesLines (lines_of counts) text at now
    written_all h =
        let all = before_all counts place so_far.inside h in
        record { ends = so_far.ends ∙ ap length (sym all); stored = so_far.stored ∙ ap (overwrite text 0) (sym all) }
