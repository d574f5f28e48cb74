-- A run over the steps: what holds between two of them. Assumes nothing.
use mathlib.Core.Path.{◌≡◌, refl, sym, ap, ◌∙◌}
use mathlib.Core.Bool.{false}
use mathlib.Core.List.{List, [], map}
use Prim.Native.Nat.{ℕ, ◌+◌, ◌-◌, ◌*◌, ◌≤◌, ◌<◌}
use native.Mathlib.Nat.{sub-zero, add-mul}
use native.Mathlib.Omega.{arith}
use lib.ListN.{length}
use lib.Ieee.{Float}
use Rattle.node.specs.Areas.{some_bad, id_at}
use Rattle.plan.specs.declared.Plan.{Plan}
use Rattle.plan.specs.declared.Step.{Step}
use Rattle.plan.specs.Words.{read_at, decoded_from, decoded}
use Rattle.plan.specs.Resolved.{Resolved, resolved, node_named}
use Rattle.plan.specs.Sound.{Within, Names, Placed, Passes}
use Rattle.plan.proofs.Answers.{rest_of}
use Rattle.plan.proofs.Words.{decoded_on, decoded_bad, decoded_none}
use Rattle.plan.proofs.Accepted.{pass_placed, pass_narrow, pass_apart, pass_rest}
use Rattle.plan.proofs.Named.{node_inside}
use Rattle.plan.specs.Loops.{channels, channels_of}
use Rattle.run.specs.Run.{State, stepped, run_steps}
use Rattle.run.specs.Loops.{Fit, FitStep}
use Rattle.run.proofs.Outputs.{wrote_more}
use Rattle.run.proofs.States.{Good, step_nodes, good_ends}
use Rattle.std.specs.Prelude.{Some, None}

-- a step makes no node bad
module _ (p : Plan) (indices : List ℕ) (coefficients : List Float) (block : ℕ) (input : ℕ → ℕ → List Float) (s : State) where
  pub stepped_good : (x : Step) → Fit p coefficients s → Placed p indices x → some_bad (stepped block input (resolved p indices coefficients x) s).words p.nodes ≡ false
  stepped_good x f h =
      let y = resolved p indices coefficients x in
      let good : Good p.nodes (id_at s.words) s.words = record { room = f.room.1; ids_are = λ i l. refl; none_bad = f.good } in
      rw (step_nodes block input y s).words (good_ends p.nodes (id_at s.words) block (node_named y) s good (node_inside p indices coefficients (Names p indices) (Within p.coefficients) x h)).none_bad

module _ (p : Plan) (indices : List ℕ) (coefficients : List Float) (input : ℕ → ℕ → List Float) (w : List ℕ) (s₀ : State) where
  abbrev steps_of : List Step → List Resolved
  steps_of l = map (resolved p indices coefficients) l

  abbrev from : ℕ → ℕ → List Step
  from i at = decoded_from w (p.steps - i) at

  -- i steps are behind, and led from s₀ to s: what is left of the steps takes s to where all of them take s₀
  pub record Going (at i : ℕ) (s : State) : Type 0 where
    pub turns : i ≤ p.steps
    pub fit : Fit p coefficients s
    pub pass : Passes p indices w (p.steps - i) at
    pub room : s.wrote + channels_of (from i at) * p.block ≤ length s.output
    pub floats : length s.floats ≡ length s₀.floats
    pub words : length s.words ≡ length s₀.words
    pub buffers : length s.buffers ≡ length s₀.buffers
    pub output : length s.output ≡ length s₀.output
    pub so : run_steps p.block input (steps_of (decoded w p.steps)) s₀ ≡ run_steps p.block input (steps_of (from i at)) s

  pub going_starts : Fit p coefficients s₀ → Passes p indices w p.steps 0 → s₀.wrote ≡ 0
      → channels_of (decoded w p.steps) * p.block ≤ length s₀.output → Going 0 0 s₀
  unfolding decoded
  going_starts f c z r =
      record {
        turns = omega arith;
        fit = f;
        pass = rw sub-zero c;
        room = rw (sub-zero, z) (omega arith);
        floats = refl;
        words = refl;
        buffers = refl;
        output = refl;
        so = rw sub-zero;
      }

  module _ (at i : ℕ) (s : State) (c : Going at i s) where
    module _ (h : i < p.steps) {x : Step} {next : ℕ} (r : read_at w at ≡ Some (x, next)) where
      room_here : s.wrote + (channels x * p.block + channels_of (from (i + 1) next) * p.block) ≤ length s.output
      unfolding channels_of
      room_here =
          let e : channels_of (from i at) ≡ channels x + channels_of (from (i + 1) next) = ap channels_of (decoded_on w at (rest_of h) r) in
          rw (e, add-mul) at c.room

      pub going_fits : FitStep p indices coefficients s x × (s.wrote + channels x * p.block ≤ length s.output)
      going_fits = (
        record {
          fit = c.fit;
          inside = pass_placed p indices w at (rest_of h) c.pass r;
          narrow = pass_narrow p indices w at (rest_of h) c.pass r;
          apart = pass_apart p indices w at (rest_of h) c.pass r;
        },
        omega (arith, room_here),
      )

      pub going_on : (t : State) → t ≡ stepped p.block input (resolved p indices coefficients x) s → length t.floats ≡ length s.floats
          → length t.words ≡ length s.words → length t.buffers ≡ length s.buffers → length t.output ≡ length s.output
          → Going next (i + 1) t
      unfolding run_steps
      going_on t q lf lw lb lo =
          let f = going_fits.0 in
          let m : t.wrote ≡ s.wrote + channels x * p.block =
          ap (λ (y : State). y.wrote) q ∙ wrote_more p indices coefficients p.block input x s f.inside in
          record {
            turns = omega arith;
            fit = record {
              block = c.fit.block;
              steps = c.fit.steps;
              weights = c.fit.weights;
              room = rw (lf, lw) c.fit.room;
              good = ap (λ (y : State). some_bad y.words p.nodes) q ∙ stepped_good p indices coefficients p.block input s x c.fit f.inside;
              buffers = rw lb c.fit.buffers;
            };
            pass = pass_rest p indices w at (rest_of h) c.pass r;
            room = omega (arith, room_here);
            floats = lf ∙ c.floats;
            words = lw ∙ c.words;
            buffers = lb ∙ c.buffers;
            output = lo ∙ c.output;
            so = c.so ∙ ap (λ (l : List Step). run_steps p.block input (steps_of l) s) (decoded_on w at (rest_of h) r)
                ∙ ap (run_steps p.block input (steps_of (from (i + 1) next))) (sym q);
          }

    ends : from i at ≡ [] → s ≡ run_steps p.block input (steps_of (decoded w p.steps)) s₀
    unfolding run_steps
    ends e = sym (c.so ∙ ap (λ (l : List Step). run_steps p.block input (steps_of l) s) e)

    pub going_bad : i < p.steps → read_at w at ≡ None → s ≡ run_steps p.block input (steps_of (decoded w p.steps)) s₀
    going_bad h r = ends (decoded_bad w at (rest_of h) r)

    pub going_ends : p.steps ≤ i → s ≡ run_steps p.block input (steps_of (decoded w p.steps)) s₀
    going_ends h = ends (decoded_none w at {left = p.steps - i} (omega arith))
