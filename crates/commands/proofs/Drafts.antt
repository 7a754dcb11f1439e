-- Laws of drafts: reports one after the other.
use Prim.Native.Nat.{ℕ, ◌+◌, ◌<◌, ◌≤◌}
use native.Mathlib.Omega.{arith}
use mathlib.Core.Bool.{Bool, true, false, cond, ◌&&◌, and-true, and-false}
use mathlib.Core.List.{List, [], ◌∷◌, ◌++◌, append-nil}
use Rattle.std.specs.Prelude.{Option, None, Some, is_some, unwrap_or, Result, Ok, Err, is_ok}
use mathlib.Core.Path.{◌≡◌, refl, sym, ap, ◌∙◌}
use borrow.Author.Tests.{leb-true, lt-leb, leb-false}
use lib.ListN.{length, length-append}
use Rattle.octets.specs.Octets.{overwrite, fits}
use Rattle.octets.proofs.Overwriting.{length_overwrite, overwrite_after}
use Rattle.octets.proofs.Booleans.{both_true}
use Rattle.block.specs.Command.{Report, report_page}
use Rattle.block.specs.Encoding.{encode_report, encode_reports, last_page, encodable_report, every}
use Rattle.encoding.specs.Writing.{Writes}
use Rattle.encoding.specs.declared.Unwritten.{Unwritten}
use Rattle.encoding.specs.declared.Unwritten.TheVariants.{NoRoom, NoEncoding}
use Rattle.block.proofs.Every.{every_join}
use Rattle.block.proofs.RoundTrips.{reports_join, last_page_join}
use Rattle.commands.specs.declared.draft.Draft.{Draft}
use Rattle.commands.specs.Draft.{draft_of, taken, extended, drafted, Adds}

-- one report
module _ (draft : Draft) (r : Report) where
  encoded_one : encode_reports draft.page (r ∷ []) ≡ encode_report draft.page r
  unfolding encode_reports
  encoded_one = append-nil (encode_report draft.page r)

  taken_one : taken draft (r ∷ []) ≡ (encodable_report r && fits draft.bytes draft.length (encode_report draft.page r))
  unfolding every
  taken_one = rw (encoded_one, and-true)

  drafted_one :
      drafted draft (r ∷ [])
      ≡ cond (encodable_report r && fits draft.bytes draft.length (encode_report draft.page r))
      (Some (draft_of (overwrite draft.bytes draft.length (encode_report draft.page r)) (draft.length + length (encode_report draft.page r)) (report_page r)))
      None
  unfolding last_page
  drafted_one = rw (taken_one, encoded_one)

-- what the writer of a report answered and left, by whether the report has a form and fits
abbrev made : Bool → List ℕ → ℕ → ℕ → Option Draft
made fit laid size page = cond fit (Some (draft_of laid size page)) None

module _ (draft : Draft) {bytes : List ℕ} (laid : List ℕ) (size page : ℕ) {answer : Result ℕ Unwritten} where
  written_by :
      (encodable fit : Bool) {end : ℕ} → answer ≡ cond encodable (cond fit (Ok size) (Err NoRoom)) (Err NoEncoding) → bytes ≡ cond (encodable && fit) laid draft.bytes
      → answer ≡ Ok end → (true ≡ is_some (made (encodable && fit) laid size page)) × (draft_of bytes end page ≡ unwrap_or (made (encodable && fit) laid size page) draft)
  written_by true true {end} told stored h = let ends : end ≡ size = cc in (refl, λ i. draft_of (stored i) (ends i) page)
  written_by true false told stored h = (cc, cc)
  written_by false fit told stored h = (cc, cc)

  unwritten_by :
      (encodable fit : Bool) {why : Unwritten} → answer ≡ cond encodable (cond fit (Ok size) (Err NoRoom)) (Err NoEncoding) → bytes ≡ cond (encodable && fit) laid draft.bytes
      → answer ≡ Err why → (false ≡ is_some (made (encodable && fit) laid size page)) × (draft_of bytes draft.length draft.page ≡ unwrap_or (made (encodable && fit) laid size page) draft)
  unwritten_by true true told stored h = (cc, cc)
  unwritten_by true false told stored h = (refl, λ i. draft_of (stored i) draft.length draft.page)
  unwritten_by false fit told stored h = (refl, λ i. draft_of (stored i) draft.length draft.page)

module _ (draft : Draft) (r : Report) {answer : Result ℕ Unwritten} {bytes : List ℕ} (done : Writes draft.bytes draft.length (encodable_report r) (encode_report draft.page r) answer bytes) where
  pub added : {end : ℕ} → answer ≡ Ok end → Adds draft (r ∷ []) (Ok tt) (draft_of bytes end (report_page r))
  added h =
      let parts = written_by draft _ _ _ (encodable_report r) (fits draft.bytes draft.length (encode_report draft.page r)) done.answered done.stored h in
      record { answered = rw drafted_one parts.0; left = rw drafted_one parts.1 }

  pub not_added : {why : Unwritten} {reply : Result (Unit {0}) Unwritten} → answer ≡ Err why → is_ok reply ≡ false → Adds draft (r ∷ []) reply (draft_of bytes draft.length draft.page)
  not_added h failed =
      let parts = unwritten_by draft _ _ (report_page r) (encodable_report r) (fits draft.bytes draft.length (encode_report draft.page r)) done.answered done.stored h in
      record { answered = failed ∙ rw drafted_one parts.0; left = rw drafted_one parts.1 }

-- reports after reports
module _ (draft : Draft) (rs qs : List Report) where
  first : List ℕ
  first = encode_reports draft.page rs

  second : List ℕ
  second = encode_reports (last_page draft.page rs) qs

  bytes_join : encode_reports draft.page (rs ++ qs) ≡ first ++ second
  unfolding first second
  bytes_join = reports_join draft.page rs qs

  ends_join : draft.length + length (encode_reports draft.page (rs ++ qs)) ≡ draft.length + length first + length second
  ends_join = omega (arith, ap length bytes_join, length-append first second)

  room : taken draft rs ≡ true → draft.length + length first ≤ length draft.bytes
  unfolding first
  room h = leb-true (draft.length + length (encode_reports draft.page rs)) (length draft.bytes) (both_true (every encodable_report rs) _ h).1

  pub taken_join : taken draft rs ≡ true → taken draft (rs ++ qs) ≡ taken (extended draft rs) qs
  unfolding first second
  taken_join h =
      rw (
        every_join encodable_report rs qs,
        (both_true (every encodable_report rs) _ h).0,
        ends_join,
        length_overwrite draft.bytes draft.length first (room h),
      )

  pub extended_join : taken draft rs ≡ true → extended draft (rs ++ qs) ≡ extended (extended draft rs) qs
  unfolding first second
  extended_join h =
      λ i. draft_of
      ((ap (overwrite draft.bytes draft.length) bytes_join ∙ sym (overwrite_after draft.bytes draft.length first second (room h))) i)
      (ends_join i) (last_page_join draft.page rs qs i)

  over_by_form : (form : Bool) → every encodable_report rs ≡ form → taken draft rs ≡ false → taken draft (rs ++ qs) ≡ false
  unfolding first second
  over_by_form false e h = rw (every_join encodable_report rs qs, e)
  over_by_form true e h =
      let short : length draft.bytes < draft.length + length first = leb-false _ _ (rw e at h) in
      let shorter : length draft.bytes < draft.length + length (encode_reports draft.page (rs ++ qs)) = omega (arith, ends_join) in
      rw (lt-leb _ _ shorter, and-false)

  -- once too long, always too long
  pub over_join : taken draft rs ≡ false → taken draft (rs ++ qs) ≡ false
  over_join h = over_by_form (every encodable_report rs) refl h
