-- The numbers of the refusals of captures and tables: the proof of `Numbered`.
use Rattle.std.proofs.Common.{refl}
use Rattle.framing.specs.Packet.{packet_refusals}
use Rattle.captures.specs.Reading.{head_refusals, capture_refusals}
use Rattle.captures.specs.Statements.{head_refusals_of, capture_refusals_of}
use Rattle.captures.specs.Writing.{head_call_refusals, record_call_refusals, write_refusals}
use Rattle.counts.specs.Judging.{request_refusals, any_request_refusals}
use Rattle.rewriting.specs.Rewriting.{rewrite_refusals}
use Rattle.tables.specs.Importing.{header_refusals, line_refusals}
use Rattle.tool.specs.Response.{response_refusals, any_response_refusals}
use Rattle.dataset.specs.Refusals.{Numbered}

pub numbered : Numbered
unfolding packet_refusals head_refusals capture_refusals head_refusals_of capture_refusals_of head_call_refusals record_call_refusals write_refusals request_refusals any_request_refusals rewrite_refusals header_refusals line_refusals response_refusals any_response_refusals
numbered =
    record {
      capture = refl;
      version = λ version. refl;
      head_written = refl;
      record_written = refl;
      capture_written = refl;
      rewritten = refl;
      request = refl;
      response = refl;
      header = refl;
      line = refl;
    }
