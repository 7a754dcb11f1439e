-- The number of each refusal, and of answers that may be one.
use Rattle.std.specs.Prelude.{◌≡◌, ℕ, ◌<◌, Option, None, Some, Result, Ok, Err}
use Rattle.refusals.specs.declared.Refusal.{Refusal}
use Rattle.refusals.specs.declared.Refusal.TheVariants as is

abbrev pub number_of : Refusal → ℕ
number_of is.ShortBuffer = 1
number_of is.WrongLength = 2
number_of is.WrongMark = 3
number_of is.WrongChecksum = 4
number_of is.WrongHeader = 5
number_of is.WrongPasswordSize = 6
number_of is.OtherId = 7
number_of is.OtherPassword = 8
number_of is.NoFunction = 9
number_of is.MalformedBlock = 10
number_of is.DiscoveryWrites = 11
number_of is.LongResponse = 12
number_of is.BadId = 20
number_of is.BadPassword = 21
number_of is.BadMode = 22
number_of is.BadUnitType = 23
number_of is.NotMeasured = 30
number_of is.MeasuredLength = 31
number_of is.ExpectedId = 40
number_of is.CommandList = 41
number_of is.NotEncodable = 42
number_of is.LongRequest = 43
number_of is.CaptureMark = 50
number_of is.UnknownVersion = 51
number_of is.WrongBoards = 52
number_of is.WrongRecord = 53
number_of is.NoSpace = 54
number_of is.TableHeader = 60
number_of is.BadLine = 61
number_of is.FieldCount = 62
number_of is.BadField = 63
number_of is.BadRecord = 70

-- 0 for an answer that is no refusal
abbrev pub number_in : {T : Type 0} → Result T Refusal → ℕ
number_in (Ok answer) = 0
number_in (Err refusal) = number_of refusal

-- 0 where there is no refusal
abbrev pub number_or_zero : Option Refusal → ℕ
number_or_zero None = 0
number_or_zero (Some refusal) = number_of refusal

-- no two refusals have one number
abbrev pub NumbersDistinct : Type 0
NumbersDistinct = (one other : Refusal) → number_of one ≡ number_of other → one ≡ other

-- no refusal has the number 0
abbrev pub NumbersAboveZero : Type 0
NumbersAboveZero = (refusal : Refusal) → 0 < number_of refusal
