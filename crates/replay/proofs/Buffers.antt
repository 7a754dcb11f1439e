-- A lent buffer is as long as its type says.
use Rattle.std.proofs.Common.{◌≡◌, ℕ, sym, length, replicate}
use lib.ListN.{length-replicate}

pub lent_length : (count byte : ℕ) → count ≡ length (replicate count byte)
lent_length count byte = sym (length-replicate {0} {A = ℕ} count byte)
