-- The tool's answers in numbers, for callers in other languages.
use Rattle.std.specs.Prelude.{ℕ, cond, List, ◌≡◌, length, Option, None, Some, Result, Ok, Err}
use Rattle.octets.specs.Octets.{overwrite, fits}
use Rattle.tool.specs.Request.{WriteCall, write_refusal, written_as, buffer_as}
use Rattle.firmware.specs.Reply.{reply_with}
use Rattle.firmware.specs.declared.Reply.{Reply}
use Rattle.refusals.specs.Refusals.{number_of}
use Rattle.refusals.specs.declared.Refusal.{Refusal}

-- refusal 0: written
abbrev pub written_reply : Result ℕ Refusal → Reply
written_reply (Ok length) = reply_with 0 length
written_reply (Err refusal) = reply_with (number_of refusal) 0

-- refusal 1: the text does not fit
abbrev pub listed_reply : Option ℕ → Reply
listed_reply (Some length) = reply_with 0 length
listed_reply None = reply_with 1 0

-- the contract of `udgornwy_write`
pub record WritesInNumbers (call : WriteCall) (reply : Reply) (after : List ℕ) : Type 0 where
  pub answered : reply ≡ written_reply (written_as (write_refusal call) call)
  pub held : after ≡ buffer_as (write_refusal call) call

-- the contract of `udgornwy_list`: the text is in the first bytes, or the buffer is as it was
pub record ListsInNumbers (text buffer : List ℕ) (reply : Reply) (after : List ℕ) : Type 0 where
  pub answered : reply ≡ listed_reply (cond (fits buffer 0 text) (Some (length text)) None)
  pub held : after ≡ cond (fits buffer 0 text) (overwrite buffer 0 text) buffer
