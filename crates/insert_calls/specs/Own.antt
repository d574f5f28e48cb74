-- A step with a node of its own: the calls for it, and the nodes of an insert. Definitions only.
use Rattle.std.specs.Prelude.{ℕ, ◌+◌, List, Float}
use Rattle.plan.specs.declared.Plan.{Plan}
use Rattle.plan.specs.declared.Span.{Span}
use Rattle.builder.specs.Built.{BuilderCall}
use Rattle.insert.specs.declared.InsertPoint.{InsertPoint}
use Rattle.insert.specs.Wiring.{gain_calls, send_calls}
use Rattle.insert_calls.specs.declared.wiring.OwnNode.{OwnNode}

abbrev pub own_gain : OwnNode → Float → List BuilderCall
own_gain o gain = gain_calls o.id gain o.ramp o.number o.src o.dst

abbrev pub own_send : OwnNode → Span → List BuilderCall
own_send o weights = send_calls o.id o.ramp o.number o.src o.dst weights

-- the k-th node of an insert on the plan as it was before
abbrev pub own_node : Plan → InsertPoint → (id k : ℕ) (src dst : Span) → OwnNode
own_node p i id k src dst = record { id = id; ramp = i.ramp; number = p.nodes + k; src = src; dst = dst }
