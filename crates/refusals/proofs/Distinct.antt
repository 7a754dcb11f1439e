-- Each refusal has a number of its own, which is not 0: the proofs of `NumbersDistinct` and `NumbersAboveZero`.
use Rattle.std.proofs.Common.{◌≡◌, ℕ, cond, eqb, List, [], ◌∷◌, Option, None, Some, sym, refl, ap, ◌∙◌, arith}
use Rattle.refusals.specs.Refusals.{number_of, NumbersDistinct, NumbersAboveZero}
use Rattle.refusals.specs.declared.Refusal.{Refusal}
use Rattle.refusals.specs.declared.Refusal.TheVariants as is

each_refusal : List Refusal
each_refusal =
    is.ShortBuffer ∷ is.WrongLength ∷ is.WrongMark ∷ is.WrongChecksum ∷ is.WrongHeader ∷ is.WrongPasswordSize ∷
    is.OtherId ∷ is.OtherPassword ∷ is.NoFunction ∷ is.MalformedBlock ∷ is.DiscoveryWrites ∷ is.LongResponse ∷
    is.BadId ∷ is.BadPassword ∷ is.BadMode ∷ is.BadUnitType ∷ is.NotMeasured ∷ is.MeasuredLength ∷
    is.ExpectedId ∷ is.CommandList ∷ is.NotEncodable ∷ is.LongRequest ∷ is.CaptureMark ∷ is.UnknownVersion ∷
    is.WrongBoards ∷ is.WrongRecord ∷ is.NoSpace ∷ is.TableHeader ∷ is.BadLine ∷ is.FieldCount ∷
    is.BadField ∷ is.BadRecord ∷ []

-- the refusal of a number
first_with : ℕ → List Refusal → Option Refusal
first_with number [] = None
first_with number (refusal ∷ rest) = cond (eqb (number_of refusal) number) (Some refusal) (first_with number rest)

numbered : ℕ → Option Refusal
numbered number = first_with number each_refusal

numbered_back : (refusal : Refusal) → numbered (number_of refusal) ≡ Some refusal
unfolding numbered each_refusal first_with
numbered_back is.ShortBuffer = refl
numbered_back is.WrongLength = refl
numbered_back is.WrongMark = refl
numbered_back is.WrongChecksum = refl
numbered_back is.WrongHeader = refl
numbered_back is.WrongPasswordSize = refl
numbered_back is.OtherId = refl
numbered_back is.OtherPassword = refl
numbered_back is.NoFunction = refl
numbered_back is.MalformedBlock = refl
numbered_back is.DiscoveryWrites = refl
numbered_back is.LongResponse = refl
numbered_back is.BadId = refl
numbered_back is.BadPassword = refl
numbered_back is.BadMode = refl
numbered_back is.BadUnitType = refl
numbered_back is.NotMeasured = refl
numbered_back is.MeasuredLength = refl
numbered_back is.ExpectedId = refl
numbered_back is.CommandList = refl
numbered_back is.NotEncodable = refl
numbered_back is.LongRequest = refl
numbered_back is.CaptureMark = refl
numbered_back is.UnknownVersion = refl
numbered_back is.WrongBoards = refl
numbered_back is.WrongRecord = refl
numbered_back is.NoSpace = refl
numbered_back is.TableHeader = refl
numbered_back is.BadLine = refl
numbered_back is.FieldCount = refl
numbered_back is.BadField = refl
numbered_back is.BadRecord = refl

pub numbers_distinct : NumbersDistinct
numbers_distinct one other same =
    let both : Some one ≡ Some other = sym (numbered_back one) ∙ ap numbered same ∙ numbered_back other in
    cc

pub numbers_above_zero : NumbersAboveZero
numbers_above_zero is.ShortBuffer = omega arith
numbers_above_zero is.WrongLength = omega arith
numbers_above_zero is.WrongMark = omega arith
numbers_above_zero is.WrongChecksum = omega arith
numbers_above_zero is.WrongHeader = omega arith
numbers_above_zero is.WrongPasswordSize = omega arith
numbers_above_zero is.OtherId = omega arith
numbers_above_zero is.OtherPassword = omega arith
numbers_above_zero is.NoFunction = omega arith
numbers_above_zero is.MalformedBlock = omega arith
numbers_above_zero is.DiscoveryWrites = omega arith
numbers_above_zero is.LongResponse = omega arith
numbers_above_zero is.BadId = omega arith
numbers_above_zero is.BadPassword = omega arith
numbers_above_zero is.BadMode = omega arith
numbers_above_zero is.BadUnitType = omega arith
numbers_above_zero is.NotMeasured = omega arith
numbers_above_zero is.MeasuredLength = omega arith
numbers_above_zero is.ExpectedId = omega arith
numbers_above_zero is.CommandList = omega arith
numbers_above_zero is.NotEncodable = omega arith
numbers_above_zero is.LongRequest = omega arith
numbers_above_zero is.CaptureMark = omega arith
numbers_above_zero is.UnknownVersion = omega arith
numbers_above_zero is.WrongBoards = omega arith
numbers_above_zero is.WrongRecord = omega arith
numbers_above_zero is.NoSpace = omega arith
numbers_above_zero is.TableHeader = omega arith
numbers_above_zero is.BadLine = omega arith
numbers_above_zero is.FieldCount = omega arith
numbers_above_zero is.BadField = omega arith
numbers_above_zero is.BadRecord = omega arith
