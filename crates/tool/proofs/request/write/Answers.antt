-- `tool::request::write` meets its contract: each check decides its row of the list of refusals, or leaves the answer to those after it.
use mathlib.Core.Bool.{false, not}
use mathlib.Core.Path.{◌≡◌, refl, ap, ◌∙◌}
use borrow.Author.Tests.{not-false}
use Rattle.std.specs.Result.{result_ok}
use Rattle.std.proofs.lemmas.Result.{err_from_is_err_and}
use Rattle.framing.specs.Refusal.{first_refusal}
use Rattle.framing.proofs.Refusals.{passed}
use Rattle.tool.specs.Checks.{wrong_id, wrong_password}
use Rattle.tool.specs.CommandList.{describes_list}
use Rattle.tool.specs.Request.{WriteCall, write_call, commands_of, small_buffer, not_encodable, write_refusals, write_refusal}
use Rattle.tool.proofs.CommandLists.{counts_equal}
use Rattle.tool.proofs.Writing.{Judged, none_told, long_refused, none_given, answered_as}
use Rattle.tool.proofs.request.write.Goals as goal

-- what five passed checks tell
judged :
    (call : WriteCall) → small_buffer call.buffer ≡ false → wrong_id call.id ≡ false → wrong_password call.password ≡ false
    → not (describes_list call.functions call.numbers call.lengths call.values) ≡ false → not_encodable (commands_of call) ≡ false → Judged call
unfolding write_refusal write_refusals first_refusal
judged call roomy id_right password_right listed encodable =
    record {
      roomy = roomy;
      id_right = id_right;
      password_right = password_right;
      counts = counts_equal _ _ _ call.values (not-false _ listed);
      encodable = encodable;
      left = rw (roomy, id_right, password_right, listed, encodable);
    }

pub returns-in_err-size : goal.returns-in_err-size
returns-in_err-size c =
    let call = write_call c.args.buffer.now c.args.id.now c.args.password.now c.args.functions.now c.args.numbers.now c.args.lengths.now c.args.values.now in
    let right : Judged call = judged call (passed _ c.check_buffer.ensures c.in-Passed.is) (passed _ c.check_id.ensures c.in-Passed-check_id.is) (passed _ c.check_password.ensures c.in-Passed-check_password.is) (passed _ c.check_list.ensures c.in-Passed-check_list.is) (passed _ c.check_forms.ensures c.in-Passed-check_forms.is) in
    let p = err_from_is_err_and c.from_residual.result c.from_residual.ensures.1 in
    let none = none_given c.write_block.result c.ok_or.ensures.value c.in_err-size.was in
    rw (p.1, p.2, none.1) (long_refused right refl (none_told _ _ c.write_block.ensures call.id call.password refl right.encodable none.0))

pub returns : goal.returns
returns c =
    let call = write_call c.args.buffer.now c.args.id.now c.args.password.now c.args.functions.now c.args.numbers.now c.args.lengths.now c.args.values.now in
    let right : Judged call = judged call (passed _ c.check_buffer.ensures c.in-Passed.is) (passed _ c.check_id.ensures c.in-Passed-check_id.is) (passed _ c.check_password.ensures c.in-Passed-check_password.is) (passed _ c.check_list.ensures c.in-Passed-check_list.is) (passed _ c.check_forms.ensures c.in-Passed-check_forms.is) in
    answered_as right c.write_block.ensures (c.ok_or.ensures.ok_part ∙ ap result_ok c.in_ok-size.was) c.first_function-function.ensures c.write.ensures c.ok_or-2.ensures.value
