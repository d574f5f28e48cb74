-- The reply of a call in C's form for each answer of the Rattle call. The values beside a refusal are 0, or false. Definitions only.
use Rattle.std.specs.Prelude.{ℕ, Bool, false, List, replicate, get_or, Float, Result, Ok, Err}
use Rattle.std.specs.Result.{result_unwrap_or}
use Rattle.std.specs.Option.{unwrap_or}
use Rattle.refusal.specs.declared.Refusal.{Refusal}
use Rattle.refusal.specs.Numbers.{number}
use Rattle.plan.specs.declared.Span.{Span}
use Rattle.format.specs.Floats.{zero64}
use Rattle.plan.specs.declared.Plan.{Plan}
use Rattle.plan.specs.Words.{span}
use Rattle.mixer_replies.specs.declared.Status.{Status}
use Rattle.mixer_replies.specs.declared.PlanReply.{PlanReply}
use Rattle.mixer_replies.specs.declared.SpanReply.{SpanReply}
use Rattle.mixer_replies.specs.declared.NodeReply.{NodeReply}
use Rattle.mixer_replies.specs.declared.BufferReply.{BufferReply}
use Rattle.mixer_replies.specs.declared.CountReply.{CountReply}
use Rattle.mixer_replies.specs.declared.CleanReply.{CleanReply}
use Rattle.mixer_replies.specs.declared.GainsReply.{GainsReply}
use Rattle.mixer_replies.specs.declared.StereoReply.{StereoReply}
use Rattle.refusal.specs.Tests.{Answer}

-- 0 and 0 where the call was accepted, else the refusal's number and its place, which is 0 where it has none
abbrev pub status_of : {A : Type 0} → Result A Refusal → Status
status_of (Ok _) = record { number = 0; place = 0 }
status_of (Err r) = record { number = number r.reason; place = unwrap_or r.place 0 }

-- ---- the builder calls

abbrev pub plan_reply : Plan → Answer → PlanReply
plan_reply p a = record { status = status_of a; plan = p }

abbrev pub span_reply : Plan → Result Span Refusal → SpanReply
span_reply p a = record { status = status_of a; plan = p; span = result_unwrap_or a (span 0 0) }

abbrev pub node_reply : Plan → Result ℕ Refusal → NodeReply
node_reply p a = record { status = status_of a; plan = p; node = result_unwrap_or a 0 }

abbrev pub buffer_reply : Result ℕ Refusal → BufferReply
buffer_reply a = record { status = status_of a; buffer = result_unwrap_or a 0 }

-- ---- runs and traces

abbrev pub count_reply : Result ℕ Refusal → CountReply
count_reply a = record { status = status_of a; count = result_unwrap_or a 0 }

abbrev pub clean_reply : Result Bool Refusal → CleanReply
clean_reply a = record { status = status_of a; clean = result_unwrap_or a false }

-- ---- balance and width

abbrev pub gains_reply : Result (Float × Float) Refusal → GainsReply
gains_reply a =
    let gains : Float × Float = result_unwrap_or a (zero64, zero64) in
    record { status = status_of a; left = gains.0; right = gains.1 }

abbrev pub stereo_reply : Result (List Float) Refusal → StereoReply
stereo_reply a =
    let matrix : List Float = result_unwrap_or a (replicate 4 zero64) in
    record {
      status = status_of a;
      left_from_left = get_or matrix 0 zero64;
      left_from_right = get_or matrix 1 zero64;
      right_from_left = get_or matrix 2 zero64;
      right_from_right = get_or matrix 3 zero64;
    }
