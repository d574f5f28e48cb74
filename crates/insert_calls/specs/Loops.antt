-- What the functions that wire an insert take for granted, and how they say what they leave. Definitions only.
use Rattle.std.specs.Prelude.{ℕ, ◌+◌, ◌-◌, ◌*◌, ◌≤◌, List, map}
use Rattle.format.specs.Formats.{channels}
use Rattle.plan.specs.declared.Plan.{Plan}
use Rattle.plan.specs.Limits.{unit_limits}
use Rattle.builder.specs.Built.{BuilderCall, asked, BuilderState, built}
use Rattle.insert.specs.declared.InsertPoint.{InsertPoint}
use Rattle.insert.specs.Insert.{max_channel}

-- a state after single calls of the builder, by the unit's limits
abbrev pub wired : BuilderState → List BuilderCall → BuilderState
wired s cs = built s (map (asked unit_limits) cs)

-- the plan as it was has room for the send
pub record SendFits (p : Plan) (n : ℕ) : Type 0 where
  pub indices : p.indices + n ≤ unit_limits.indices
  pub nodes : p.nodes + 1 ≤ unit_limits.nodes

-- and for the whole of an insert with a return, whose channels count from 1
pub record ReturnFits (p : Plan) (i : InsertPoint) : Type 0 where
  pub buffers : p.buffers + 6 * channels i.format ≤ unit_limits.buffers
  pub indices : p.indices + 6 * channels i.format ≤ unit_limits.indices
  pub coefficients : p.coefficients + channels i.format * channels i.format ≤ unit_limits.coefficients
  pub nodes : p.nodes + 6 ≤ unit_limits.nodes
  pub input : 1 ≤ i.back.input
  pub first : 1 ≤ i.back.channel
  pub last : i.back.channel + channels i.format - 1 ≤ max_channel
