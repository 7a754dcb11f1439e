-- A turn of the loop that runs the commands of a block.
use Prim.Native.Nat.{ℕ, ◌+◌, ◌≤◌}
use native.Mathlib.Nat.{add-zero}
use native.Mathlib.Omega.{arith}
use mathlib.Core.Bool.{Bool, true, false, cond}
use mathlib.Core.List.{List, [], ◌∷◌, ◌++◌, append-nil}
use mathlib.Core.Option.{Option, none, some, map}
use Rattle.std.specs.Prelude.{Option as OptionInCode, None, Some, is_some, unwrap_or, Result, is_ok}
use Rattle.encoding.specs.declared.Unwritten.{Unwritten}
use mathlib.Core.Path.{◌≡◌, refl, sym, ap, ◌∙◌}
use borrow.Author.Tests.{le-leb, leb-true}
use lib.ListN.{length, take, drop, take-append-drop}
use Rattle.octets.proofs.Booleans.{both_true}
use Rattle.octets.proofs.Overwriting.{length_overwrite}
use Rattle.block.specs.Command.{Command, Report}
use Rattle.block.specs.Encoding.{encode_reports, last_page, encodable_report, every}
use Rattle.model.specs.Commands.{after_command, run}
use Rattle.model.specs.declared.Parameters.{Parameters}
use Rattle.commands.specs.declared.Scope.{Scope}
use Rattle.commands.specs.declared.draft.Draft.{Draft}
use Rattle.commands.specs.Draft.{draft_of, taken, extended, drafted, Adds, reported_in, run_reports_in, run_result, run_from}
use Rattle.commands.proofs.Drafts.{taken_join, extended_join, over_join}

-- a draft that reports can be put after
pub record Settled (draft : Draft) : Type 0 where
  pub whole : length draft.bytes ≡ 232
  pub inside : draft.length ≤ length draft.bytes

module _ (draft : Draft) (settled : Settled draft) where
  taken_none : taken draft [] ≡ true
  unfolding every encode_reports
  taken_none =
      let room : draft.length + 0 ≤ length draft.bytes = omega (arith, settled.inside) in
      le-leb _ _ room

  extended_none : extended draft [] ≡ draft
  unfolding encode_reports last_page
  extended_none =
      λ i. draft_of
      ((ap (λ (n : ℕ). take draft.length draft.bytes ++ [] ++ drop n draft.bytes) (add-zero draft.length)
      ∙ ap (λ (front : List ℕ). front ++ drop draft.length draft.bytes) (append-nil (take draft.length draft.bytes))
      ∙ take-append-drop draft.length draft.bytes) i)
      (add-zero draft.length i) draft.page

  -- `drafted` without its own case for no reports
  drafted_as : (reports : List Report) → drafted draft reports ≡ cond (taken draft reports) (Some (extended draft reports)) None
  drafted_as [] = sym (rw (taken_none, extended_none))
  drafted_as (first ∷ rest) = refl

  -- the block ends
  pub ran_none : (scope : Scope) (p : Parameters) → run_from scope p draft (some []) ≡ Some (run_result p draft)
  unfolding run_reports_in run
  ran_none scope p = rw (taken_none, extended_none)

-- a command is run after a draft, and others are left
module _
    (scope : Scope) (p : Parameters) (draft : Draft) (settled : Settled draft) (c : Command) {held : Parameters} {after : Draft} {answer : Result (Unit {0}) Unwritten}
    (changed : held ≡ after_command p c) (adds : Adds draft (reported_in scope held c) answer after)
  where
    said : List Report
    said = reported_in scope (after_command p c) c

    after_draft : drafted draft (reported_in scope held c) ≡ cond (taken draft said) (Some (extended draft said)) None
    unfolding said
    after_draft = ap (λ (now : Parameters). drafted draft (reported_in scope now c)) changed ∙ drafted_as draft settled said

    all_taken : is_ok answer ≡ taken draft said
    all_taken = adds.answered ∙ ap is_some after_draft ∙ by (taken draft said)
      where
        by : (yes : Bool) → is_some (cond yes (Some (extended draft said)) None) ≡ yes
        by true = refl
        by false = refl

    kept : is_ok answer ≡ true → after ≡ extended draft said
    kept h = adds.left ∙ ap (λ (made : OptionInCode Draft). unwrap_or made draft) after_draft
        ∙ ap (λ (yes : Bool). unwrap_or (cond yes (Some (extended draft said)) None) draft) (sym all_taken ∙ h)

    pub settled_again : is_ok answer ≡ true → Settled after
    settled_again h =
        let room : draft.length + length (encode_reports draft.page said) ≤ length draft.bytes =
        leb-true _ _ (both_true (every encodable_report said) _ (sym all_taken ∙ h)).1 in
        let whole = length_overwrite draft.bytes draft.length (encode_reports draft.page said) room in
        record { whole = rw (kept h) (whole ∙ settled.whole); inside = rw (kept h) (omega (arith, whole)) }

    -- the rest from here gives what the whole gives
    next_page : (rest : Option (List Command)) → taken draft said ≡ true
        → run_from scope p draft (map (λ (cs : List Command). c ∷ cs) rest) ≡ run_from scope (after_command p c) (extended draft said) rest
    unfolding said run_reports_in run
    next_page none h = refl
    next_page (some cs) h =
        rw (
          taken_join draft said (run_reports_in scope (after_command p c) cs) h,
          extended_join draft said (run_reports_in scope (after_command p c) cs) h,
        )

    pub turn_left : (rest : Option (List Command)) → is_ok answer ≡ true
        → run_from scope p draft (map (λ (cs : List Command). c ∷ cs) rest) ≡ run_from scope held after rest
    turn_left rest h = next_page rest (sym all_taken ∙ h) ∙ sym (λ i. run_from scope (changed i) (kept h i) rest)

    -- reports without room stop it
    pub turn_over : (rest : Option (List Command)) → is_ok answer ≡ false → run_from scope p draft (map (λ (cs : List Command). c ∷ cs) rest) ≡ None
    unfolding said run_reports_in run
    turn_over none h = refl
    turn_over (some cs) h = rw (over_join draft said (run_reports_in scope (after_command p c) cs) (sym all_taken ∙ h))
