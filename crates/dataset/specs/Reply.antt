-- An answer in numbers.
use Rattle.std.specs.Prelude.{ℕ}
use Rattle.dataset.specs.declared.Reply.{Reply}

abbrev pub reply_with : ℕ → ℕ → Reply
reply_with refusal length = record { refusal = refusal; length = length }
