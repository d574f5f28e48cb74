-- An accepted call changes only what it says: of each area it is lent, what lies before the old count and from the new one on stays.
-- Assumes nothing.
use mathlib.Core.Path.{◌≡◌, refl}
use mathlib.Core.List.{List}
use Prim.Native.Nat.{ℕ, ◌+◌, ◌*◌, ◌≤◌}
use native.Mathlib.Nat.{le_refl}
use native.Mathlib.Omega.{arith}
use lib.ListN.{length, take, replicate, length-replicate}
use lib.Ieee.{Float}
use lib.Seq.{sets, length-sets, length-take-le}
use Rattle.lists.proofs.Stores.{take_sets, drop_sets}
use Rattle.node.specs.Sizes.{node_float_count, node_word_count}
use Rattle.node.specs.Nodes.{new_node}
use Rattle.node.specs.Nodes.{silence}
use Rattle.node.specs.Areas.{floats_of, words_of}
use Rattle.node.proofs.Kept.{full_new}
use Rattle.node.proofs.Areas.{length_floats}
use Rattle.plan.specs.declared.Plan.{Plan}
use Rattle.plan.specs.declared.Limits.{Limits}
use Rattle.builder.specs.Growth.{buffers_growth, coefficients_growth, node_growth, step_growth}
use Rattle.builder.specs.Calls.{numbers_from, record_length, finish_answer, finish_area}
use Rattle.builder.specs.Built.{BuilderCall, buffers, coefficients, node, step, BuilderState, answer, after, KeptPart, Kept}
use Rattle.builder.proofs.Numbers.{length_numbers}
use Rattle.builder.proofs.Fits.{step_fits}
use Rattle.builder.proofs.Outcomes.{plan_accepted, buffers_accepted, coefficients_accepted, floats_accepted, words_accepted, step_accepted, finish_accepted}
use Rattle.std.specs.Prelude.{Ok}

untouched : {A : Type 0} (k : ℕ) (l : List A) → KeptPart k k l l
untouched k l = record { front = refl; rest = refl; length = refl }

stored : {A : Type 0} (k m : ℕ) (l vs : List A) → k + length vs ≤ m → KeptPart k m l (sets l k vs)
stored k m l vs h = record { front = take_sets k l k vs (le_refl k); rest = drop_sets m l k vs h; length = length-sets l k vs }

pub accepted_kept : (l : Limits) (s : BuilderState) (c : BuilderCall) → answer l s c ≡ Ok tt → Kept s (after l s c)
accepted_kept l s (buffers n) e =
    let p = s.plan in
    rw (plan_accepted p (buffers_growth n) e, buffers_accepted l p n s.indices e)
    (record {
      block = refl;
      indices = stored p.indices (p.indices + n) s.indices (numbers_from p.buffers n) (omega (arith, length_numbers p.buffers n));
      coefficients = untouched p.coefficients s.coefficients;
      floats = untouched (p.nodes * node_float_count) s.floats;
      words = untouched (p.nodes * node_word_count) s.words;
      steps = untouched p.words s.steps;
    })
accepted_kept l s (coefficients xs) e =
    let p = s.plan in
    rw (plan_accepted p (coefficients_growth (length xs)) e, coefficients_accepted l p xs s.coefficients e)
    (record {
      block = refl;
      indices = untouched p.indices s.indices;
      coefficients = stored p.coefficients (p.coefficients + length xs) s.coefficients xs (omega arith);
      floats = untouched (p.nodes * node_float_count) s.floats;
      words = untouched (p.nodes * node_word_count) s.words;
      steps = untouched p.words s.steps;
    })
accepted_kept l s (node id xs ramp safe) e =
    let p = s.plan in
    let new = new_node id xs ramp safe in
    rw (plan_accepted p node_growth e, floats_accepted l p id xs ramp safe s.floats s.words e, words_accepted l p id xs ramp safe s.floats s.words e)
    (record {
      block = refl;
      indices = untouched p.indices s.indices;
      coefficients = untouched p.coefficients s.coefficients;
      floats = stored (p.nodes * node_float_count) ((p.nodes + 1) * node_float_count) s.floats (floats_of new) (omega (arith, length_floats new (full_new id xs ramp safe)));
      words = stored (p.nodes * node_word_count) ((p.nodes + 1) * node_word_count) s.words (words_of new) (unfold words_of in omega arith);
      steps = untouched p.words s.steps;
    })
accepted_kept l s (step w) e =
    let p = s.plan in
    let n = record_length w in
    rw (plan_accepted p (step_growth n) e, step_accepted l p w s.steps e)
    (record {
      block = refl;
      indices = untouched p.indices s.indices;
      coefficients = untouched p.coefficients s.coefficients;
      floats = untouched (p.nodes * node_float_count) s.floats;
      words = untouched (p.nodes * node_word_count) s.words;
      steps = stored p.words (p.words + n) s.steps (take n w) (omega (arith, length-take-le n w (step_fits l p w (length s.steps) e).whole));
    })

-- `finish` changes the buffers alone, and of their area only those that the plan counts
pub finish_kept : (l : Limits) (p : Plan) (area : List Float) → finish_answer l p (length area) ≡ Ok tt
    → KeptPart 0 (p.buffers * p.block) area (finish_area l p area)
finish_kept l p area e =
    let n = p.buffers * p.block in
    rw (finish_accepted l p area e) (stored 0 n area (replicate n silence) (omega (arith, length-replicate n silence)))
