-- A packet of one kind, request or response: which FUNC and which data block are wrong.
use Rattle.std.specs.Prelude.{ℕ, Bool, List, [], ◌∷◌, ◌++◌, map}
use Rattle.std.proofs.Math.Option.{Option}
use Rattle.framing.specs.Frame.{Frame}
use Rattle.framing.specs.Refusal.{Rule, rule, rule_of, first_refusal}
use Rattle.framing.specs.Packet.{packet_refusals, frame_of}
use Rattle.refusals.specs.declared.Refusal.{Refusal}
use Rattle.refusals.specs.declared.Refusal.TheVariants.{MalformedBlock, NoFunction}

-- 9, 10
abbrev pub kind_refusals : (ℕ → Bool) → (ℕ → List ℕ → Bool) → List (Rule Frame)
kind_refusals wrong_function wrong_block =
    rule NoFunction (λ (packet : Frame). wrong_function packet.function)
    ∷ rule MalformedBlock (λ (packet : Frame). wrong_block packet.function packet.block)
    ∷ []

-- 2 to 6, 9, 10
abbrev pub any_kind_refusal : (ℕ → Bool) → (ℕ → List ℕ → Bool) → List ℕ → Option Refusal
any_kind_refusal wrong_function wrong_block packet =
    first_refusal (packet_refusals ++ map (rule_of frame_of) (kind_refusals wrong_function wrong_block)) packet
