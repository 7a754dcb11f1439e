-- The refusals of captures and tables by their numbers.
use Rattle.std.specs.Prelude.{ℕ, List, [], ◌∷◌, ◌≡◌, map}
use Rattle.framing.specs.Refusal.{Rule}
use Rattle.refusals.specs.Refusals.{number_of}
use Rattle.captures.specs.Reading.{capture_refusals}
use Rattle.captures.specs.Statements.{capture_refusals_of}
use Rattle.captures.specs.Writing.{head_call_refusals, record_call_refusals, write_refusals}
use Rattle.captures.specs.declared.Version.{Version}
use Rattle.counts.specs.Judging.{any_request_refusals}
use Rattle.rewriting.specs.Rewriting.{rewrite_refusals}
use Rattle.tables.specs.Importing.{header_refusals, line_refusals}
use Rattle.tool.specs.Response.{any_response_refusals}

-- the numbers of a list of rules, in its order
abbrev pub numbers : {Asked : Type 0} → List (Rule Asked) → List ℕ
numbers rules = map (λ (rule : Rule _). number_of rule.refusal) rules

-- 53 stands twice for a capture that is written: of the list that is given, and of a record in it
pub record Numbered : Type 0 where
  pub capture : numbers capture_refusals ≡ 50 ∷ 51 ∷ 52 ∷ 53 ∷ []
  pub version : (version : Version) → numbers (capture_refusals_of version) ≡ 50 ∷ 51 ∷ 52 ∷ 53 ∷ []
  pub head_written : numbers head_call_refusals ≡ 52 ∷ 54 ∷ []
  pub record_written : numbers record_call_refusals ≡ 52 ∷ 53 ∷ 54 ∷ []
  pub capture_written : numbers write_refusals ≡ 52 ∷ 53 ∷ 53 ∷ 54 ∷ []
  pub rewritten : numbers rewrite_refusals ≡ 50 ∷ 51 ∷ 52 ∷ 54 ∷ []
  pub request : numbers any_request_refusals ≡ 2 ∷ 3 ∷ 4 ∷ 5 ∷ 6 ∷ 9 ∷ 10 ∷ []
  pub response : numbers any_response_refusals ≡ 2 ∷ 3 ∷ 4 ∷ 5 ∷ 6 ∷ 9 ∷ 10 ∷ []
  pub header : numbers header_refusals ≡ 60 ∷ 61 ∷ []
  pub line : numbers line_refusals ≡ 61 ∷ 62 ∷ 63 ∷ []
