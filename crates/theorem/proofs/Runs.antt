-- The accepted runs of a list: sample t of what is written at a place of the output area is a sample of the run that its moment names.
-- Assumes nothing.
use mathlib.Core.Path.{◌≡◌, refl, sym, ap, ◌∙◌, subst}
use mathlib.Core.Bool.{Bool, true, false, cond}
use mathlib.Core.List.{List, [], ◌∷◌, ◌++◌, map}
use Prim.Native.Nat.{ℕ, suc, ◌+◌, ◌-◌, ◌*◌, ◌≤◌, ◌<◌}
use native.Mathlib.Nat.{not-suc-le-zero, mul-le-mul_right, suc-mul}
use native.Mathlib.Omega.{arith}
use lib.Dec.{ltb}
use lib.ListN.{length, get_or, drop, length-append, get_or-append}
use lib.Seq.{get_or-take, get_or-drop}
use lib.Ieee.{Float, nan}
use borrow.Author.Tests.{ltb-true, ltb-false}
use Rattle.lists.specs.Parts.{part}
use Rattle.lists.proofs.Stores.{length_part}
use Rattle.refusal.specs.Tests.{outcome, Answer}
use Rattle.refusal.specs.declared.Refusal.{Refusal}
use Rattle.node.specs.declared.Node.{Node}
use Rattle.node.specs.Areas.{Room, nodes}
use Rattle.mix.specs.Samples.{sample}
use Rattle.plan.specs.declared.Plan.{Plan}
use Rattle.plan.specs.declared.Span.{Span}
use Rattle.plan.specs.declared.Step.{Step}
use Rattle.plan.specs.declared.Step.TheVariants.{Patch, Gain, Matrix, Clear, Send, Output}
use Rattle.plan.specs.Check.{named}
use Rattle.plan.specs.Resolved.{Resolved, resolved, dst_of}
use Rattle.plan.specs.Sound.{Each, steps_of, Within, Names, Placed}
use Rattle.plan.proofs.Spans.{names_length, names_below}
use Rattle.plan.proofs.Named.{node_inside}
use Rattle.input.specs.Input.{lookup}
use Rattle.run.specs.Run.{RunGiven, State, run_steps, output_channels, processed}
use Rattle.run.specs.Calls.{Fixed, Changing, left_by, Call, set, run, given_to, start, answer, after, steps_of_plan}
use Rattle.run.proofs.Answers.{accepted_runs}
use Rattle.run.proofs.Admitted.{admitted, output_needs}
use Rattle.run.proofs.States.{run_lengths}
use Rattle.run.proofs.Ready.{refused_run, refused_set}
use Rattle.theorem.specs.Journal.{Entry, entry, journal, total, written}
use Rattle.theorem.proofs.Agree.{All}
use Rattle.theorem.proofs.Steps.{InPlan}
use Rattle.theorem.proofs.Block.{Every}
use Rattle.theorem.proofs.Nodes.{nodes_after, run_nodes, set_nodes}
use Rattle.theorem.proofs.Moments.{Moment, moment, moment_at, later}
use Rattle.std.specs.Prelude.{Ok, Err}

-- ---- the steps of an accepted plan are in the plan

all_below : (m : ℕ) (xs : List ℕ) → ((i : ℕ) → i < length xs → get_or xs i 0 < m) → All (λ x. x < m) xs
all_below m [] h = tt
all_below m (x ∷ xs) h = (h 0 (omega arith), all_below m xs (λ i l. h (suc i) (omega arith)))

module _ (p : Plan) (indices : List ℕ) (coefficients : List Float) where
  span_all : (s : Span) → Names p indices s → All (λ d. d < p.buffers) (named indices s)
  span_all s h = all_below p.buffers (named indices s) (λ i k. names_below p indices s h i (rw (names_length p indices s h) at k))

  dst_below : (x : Step) → Placed p indices x → All (λ d. d < p.buffers) (dst_of (resolved p indices coefficients x))
  dst_below (Patch i c d) o = (o.1, tt)
  dst_below (Gain n s d) o = span_all d o.2
  dst_below (Matrix n s d) o = span_all d o.2
  dst_below (Clear d) o = span_all d o
  dst_below (Send n s d c) o = span_all d o.2
  dst_below (Output s o') o = tt

  in_plan : (x : Step) → Placed p indices x → InPlan p.nodes p.buffers (resolved p indices coefficients x)
  in_plan x o = (node_inside p indices coefficients (Names p indices) (Within p.coefficients) x o, dst_below x o)

  all_in_plan : (ss : List Step) → Each (Placed p indices) ss → Every (InPlan p.nodes p.buffers) (map (resolved p indices coefficients) ss)
  all_in_plan [] o = tt
  all_in_plan (x ∷ ss) o = (in_plan x o.0, all_in_plan ss o.1)

-- ---- a journal, entry by entry: each was accepted in the state that those before it left
pub data Went (f : Fixed) : Changing → List Entry → Type 0 where
  none : {h : Changing} → Went f h []
  then : {h : Changing} {es : List Entry} (c : Call) → answer f h c ≡ Ok tt → Went f (after f h c) es → Went f h (entry f h c ∷ es)

refused_call : (f : Fixed) (h : Changing) (c : Call) (r : Refusal) → answer f h c ≡ Err r → after f h c ≡ h
refused_call f h (set id values ramp) r e = refused_set f h id values ramp r e
refused_call f h (run directory samples out) r e = ap left_by (refused_run f h directory samples out r e)

pub went : (f : Fixed) (cs : List Call) (h : Changing) → Went f h (journal f h cs)
went f [] h = none
went f (c ∷ cs) h = go (answer f h c) refl (went f cs (after f h c))
  where
    es : List Entry
    es = journal f (after f h c) cs

    go : (a : Answer) → answer f h c ≡ a → Went f (after f h c) es → Went f h (outcome a (entry f h c ∷ es) (λ _. es))
    go (Ok _) e w = then c e w
    go (Err r) e w = subst (λ (x : Changing). Went f x es) (refused_call f h c r e) w

-- ---- an accepted run
module _ (f : Fixed) where
  abbrev n : ℕ
  n = f.plan.block

  abbrev steps : List Resolved
  steps = steps_of_plan f

  abbrev pub nodes_of : Changing → List Node
  nodes_of h = nodes f.plan.nodes h.floats h.words

  -- the state that a run starts from, as its admission found it
  pub record Fits (s : State) : Type 0 where
    pub room : Room f.plan.nodes s.floats s.words
    pub buffers : f.plan.buffers * n ≤ length s.buffers
    pub output : output_channels steps * n ≤ length s.output
    pub wrote : s.wrote ≡ 0
    pub in_plan : Every (InPlan f.plan.nodes f.plan.buffers) steps

  module _ (h : Changing) (directory : List ℕ) (samples out : List Float) (e : answer f h (run directory samples out) ≡ Ok tt) where
    abbrev g : RunGiven
    g = given_to f directory samples

    abbrev s : State
    s = start f h out

    pub run_fits : Fits (start f h out)
    run_fits =
        let a = admitted g s e in
        record {
          room = a.fit.room;
          buffers = a.fit.buffers;
          output = rw (output_needs g s a.plan) a.output;
          wrote = refl;
          in_plan = all_in_plan f.plan f.indices f.coefficients (steps_of f.plan f.steps) a.placed;
        }

    pub nodes_then : nodes_of (after f h (run directory samples out)) ≡ nodes_after n steps (nodes_of h)
    nodes_then =
        ap (λ (t : State). nodes f.plan.nodes t.floats t.words) (accepted_runs g s e)
        ∙ run_nodes f.plan.nodes f.plan.buffers n (lookup directory samples) steps s run_fits.in_plan run_fits.room

  -- ---- place q of the output area
  module _ (q : ℕ) (inside : q < output_channels steps) where
    -- y is sample `offset` of what a run writes at place q, from some state with the nodes, over the inputs
    pub record RunAt (m : Moment) (y : Float) : Type 0 where
      pub state : State
      pub fits : Fits state
      pub nodes_are : nodes f.plan.nodes state.floats state.words ≡ m.nodes
      pub offset : m.offset < n
      pub sample_is : y ≡ sample n (run_steps n m.input steps state).output q m.offset

    reach : (len : ℕ) → output_channels steps * n ≤ len → q * n + n ≤ len
    reach len h = omega (arith, mul-le-mul_right n inside, suc-mul q n)

    module _ (h : Changing) (directory : List ℕ) (samples out : List Float) (e : answer f h (run directory samples out) ≡ Ok tt) where
      abbrev left : List Float
      left = (processed (given_to f directory samples) (start f h out)).output

      output_is : left ≡ (run_steps n (lookup directory samples) steps (start f h out)).output
      output_is = ap (λ (t : State). t.output) (accepted_runs (given_to f directory samples) (start f h out) e)

      long : q * n + n ≤ length left
      long =
          let l = (run_lengths n (lookup directory samples) steps (start f h out)).output in
          reach (length left) (rw (output_is, l) (run_fits h directory samples out e).output)

      pub part_length : length (part (q * n) n left) ≡ n
      part_length = length_part (q * n) n left long

      pub run_sample : (t : ℕ) → t < n → RunAt (moment (nodes_of h) t (lookup directory samples)) (get_or (part (q * n) n left) t nan)
      run_sample t k =
          record {
            state = start f h out;
            fits = run_fits h directory samples out e;
            nodes_are = refl;
            offset = k;
            sample_is =
                get_or-take n (drop (q * n) left) t nan k ∙ get_or-drop (q * n) left t nan
                ∙ ap (λ (o : List Float). get_or o (q * n + t) nan) output_is;
          }

    -- ---- a journal

    pub length_written : {h : Changing} {es : List Entry} → Went f h es → length (written n q es) ≡ total n es
    length_written none = refl
    length_written (then (set id values ramp) e w) = length_written w
    length_written {h} (then {es = es} (run directory samples out) e w) =
        length-append (part (q * n) n (left h directory samples out e)) (written n q es) ∙ rw (part_length h directory samples out e, length_written w)

    pub run_at : {h : Changing} {es : List Entry} → Went f h es → (t : ℕ) → t < total n es
        → RunAt (moment_at n steps (nodes_of h) es t) (get_or (written n q es) t nan)
    run_at none t l = absurd (not-suc-le-zero l)
    run_at {h} (then {es = es} (set id values ramp) e w) t l =
        subst (λ (ns : List Node). RunAt (moment_at n steps ns es t) (get_or (written n q es) t nan)) (set_nodes f.plan.nodes h.floats h.words id ramp values e)
        (run_at w t l)
    run_at {h} (then {es = es} (run directory samples out) e w) t l = go (ltb t n) refl (λ k. run_at w (t - n) (omega arith))
      where
        o : List Float
        o = left h directory samples out e

        rest : List Node → Moment
        rest ns = moment_at n steps ns es (t - n)

        go : (r : Bool) → ltb t n ≡ r → (n ≤ t → RunAt (rest (nodes_of (after f h (run directory samples out)))) (get_or (written n q es) (t - n) nan))
            → RunAt (cond r (moment (nodes_of h) t (lookup directory samples)) (rest (nodes_after n steps (nodes_of h)))) (get_or (part (q * n) n o ++ written n q es) t nan)
        go true b ih =
            let k : t < n = ltb-true t n b in
            subst (λ (y : Float). RunAt (moment (nodes_of h) t (lookup directory samples)) y)
            (sym (get_or-append (part (q * n) n o) (written n q es) nan t (rw (part_length h directory samples out e) k))) (run_sample h directory samples out e t k)
        go false b ih =
            let k : n ≤ t = ltb-false t n b in
            subst (λ (y : Float). RunAt (rest (nodes_after n steps (nodes_of h))) y) (sym (later n (part (q * n) n o) (written n q es) t (part_length h directory samples out e) k))
            (subst (λ (ns : List Node). RunAt (rest ns) (get_or (written n q es) (t - n) nan)) (nodes_then h directory samples out e) (ih k))
