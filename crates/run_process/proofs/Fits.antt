-- What the tests said of a step, as the functions of its kind ask for it. Assumes nothing.
use mathlib.Core.Path.{◌≡◌, subst}
use mathlib.Core.List.{List}
use Prim.Native.Nat.{ℕ, ◌<◌}
use lib.Ieee.{Float}
use Rattle.plan.specs.declared.Plan.{Plan}
use Rattle.plan.specs.declared.Step.{Step}
use Rattle.plan.specs.Sound.{Names}
use Rattle.run.specs.declared.Wires.{Wires}
use Rattle.run.specs.Run.{RunGiven, State}
use Rattle.run.specs.Loops.{Fit, FitStep}
use Rattle.run_kinds.specs.Loops.{NodeFit}

-- ---- the fields of a step
pub step_as : {p : Plan} {indices : List ℕ} {coefficients : List Float} {s : State} {x y : Step} → x ≡ y → FitStep p indices coefficients s x
    → FitStep p indices coefficients s y
step_as {p} {indices} {coefficients} {s} e f = subst (FitStep p indices coefficients s) e f

pub node_fit : (g : RunGiven) {s : State} (w : Wires) → Fit g.plan g.coefficients s → w.node < g.plan.nodes
    → Names g.plan g.indices w.src → Names g.plan g.indices w.dst → NodeFit g s.floats s.words s.buffers w
node_fit g w f h a b =
    record {
      block = f.block;
      node = h;
      room = f.room;
      good = f.good;
      sources = a;
      targets = b;
      area = f.buffers;
    }
