-- The sizes that the format allows a frame.
use Rattle.std.proofs.Common.{◌≡◌, ◌≤◌, true, ◌&&◌, eqb, leb, length, eqb-true, leb-true}
use Rattle.octets.proofs.Booleans.{both_true}
use Rattle.framing.specs.Frame.{Frame, packet_length, is_frame}

pub record Sizes (f : Frame) : Type 0 where
  pub id_size : length f.id ≡ 16
  pub password_fits : length f.password ≤ 8
  pub short : packet_length f ≤ 256

pub sizes : (f : Frame) → is_frame f ≡ true → Sizes f
sizes f h =
    let two : ((eqb (length f.id) 16 && leb (length f.password) 8) ≡ true) × (leb (packet_length f) 256 ≡ true) = both_true (eqb (length f.id) 16 && leb (length f.password) 8) _ h in
    let one : (eqb (length f.id) 16 ≡ true) × (leb (length f.password) 8 ≡ true) = both_true (eqb (length f.id) 16) _ two.0 in
    record { id_size = eqb-true _ _ one.0; password_fits = leb-true _ _ one.1; short = leb-true _ _ two.1 }
