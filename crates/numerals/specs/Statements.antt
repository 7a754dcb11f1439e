-- What holds of numerals, beside the contracts.
use Rattle.std.specs.Prelude.{ℕ, ◌^◌, ◌<◌, ◌≡◌}
use Rattle.numerals.specs.Numerals.{decimal, number_from}

abbrev pub DecimalsRead : Type 0
DecimalsRead = (number : ℕ) → number < 10 ^ 20 → number_from 0 (decimal number) ≡ number
