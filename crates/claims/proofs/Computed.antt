-- The worked examples hold, by computation.
use mathlib.Core.Path.{refl}
use Rattle.octets.specs.Octets.{same}
use Rattle.octets.specs.Octets.{sum}
use Rattle.framing.specs.Checksum.{checksum}
use Rattle.framing.specs.Identity.{default_id, all_alphanumeric}
use Rattle.framing.specs.Packet.{packet_refusals, packet_refusal}
use Rattle.framing.specs.Refusal.{first_refusal}
use Rattle.block.specs.Encoding.{encode_command, encode_commands_from, encode_report, encode_reports, every}
use Rattle.block.specs.Reading.{whole}
use Rattle.block.specs.Request as request
use Rattle.block.specs.Response as response
use Rattle.calendar.specs.Dates.{days_of_months, days_of_years}
use Rattle.rows.specs.Layout.{places_from}
use Rattle.rows.specs.Rows.{rows, index_in}
use Rattle.rows.specs.Sets.{printable, first_after, first_before}
use Rattle.store.specs.Sound.{sound_rows}
use Rattle.rows.specs.Start.{lowest, start_value}
use Rattle.store.specs.Start.{start_slots, product_size, start_bytes, start}
use Rattle.schedule.specs.Entries.{all_legal}
use Rattle.model.specs.Commands.{after_command, reported, run, run_reports, discovered, discover_reports}
use Rattle.model.specs.Measurement.{measure_refusals, measure_refusal, measured_board}
use Rattle.model.specs.Record.{set_up_refusals, set_up_refusal, set_up_board, sound}
use Rattle.model.specs.Step.{request_refusals, step_refusals, step_refusal, step}
use Rattle.tool.specs.CommandList.{command_list}
use Rattle.numerals.specs.Numerals.{hex_bytes}
use Rattle.tool.specs.Listing.{report_line, report_lines}
use Rattle.tool.specs.Request.{write_refusals, write_refusal}
use Rattle.tool.specs.Response.{response_refusals, any_response_refusals, any_response_refusal}
use Rattle.claims.specs.Examples.{happened}
use Rattle.claims.specs.Table.{examples, ExamplesHold}

pub examples_hold : ExamplesHold
unfolding same sum checksum default_id all_alphanumeric packet_refusals packet_refusal first_refusal encode_command encode_commands_from encode_report encode_reports every whole request.items response.items days_of_months days_of_years places_from rows index_in printable first_after first_before sound_rows lowest start_value start_slots product_size start_bytes start after_command reported run run_reports discovered discover_reports measure_refusals measure_refusal measured_board set_up_refusals set_up_refusal set_up_board sound request_refusals step_refusals step_refusal step command_list hex_bytes report_line report_lines write_refusals write_refusal response_refusals any_response_refusals any_response_refusal happened examples all_legal
examples_hold = refl
