use Rattle.std.proofs.Common.{◌≡◌, ◌+◌, ◌-◌, ◌++◌, ◌∙◌, List, ℕ, [], length, take, drop, ap, sym, arith}
use Rattle.std.proofs.Common.{rules}
use Rattle.std.proofs.lemmas.List.{length-drop, take_all, take_rest}
use Rattle.std.proofs.Math.Seq.{take-add}
use Rattle.bb_machine.specs.declared.machine.TheConstants.{MAX_STATES, MAX_SYMBOLS}
use Rattle.bb_machine.specs.inside.Draft.{begun_text, IsStop}
use Rattle.bb_machine.proofs.Prefixes.{longest_prefix, prefix_bounded, stop_joined, whole_prefix}
use Rattle.bb_machine.proofs.machine.reader.longest_prefix.Goals as goal

pub loop-at-init : goal.loop-at-init
loop-at-init c =
    record {
      inside = omega arith;
      read = (record { groups = []; group = [] }, c.new-draft.ensures, search rules);
    }

pub step-requires-clause-begun : goal.step-requires-clause-begun
step-requires-clause-begun c = let read = c.loop-at.invariant.read in (read.0, read.1)

pub loop-at-preserved : goal.loop-at-preserved
loop-at-preserved c =
    let line : List ℕ = c.args.line.now in
    let at : ℕ = c.loop-at.at in
    let taken : ℕ = c.in-Ok.taken in
    let read = c.loop-at.invariant.read in
    let rest : take (length line - at) (drop at line) ≡ drop at line = take_rest line at in
    let next = c.in-Ok.ensures.text read.0 read.1 in
    let text : begun_text next.0 ≡ begun_text read.0 ++ take taken (drop at line) = rw (← rest) next.2 in
    record {
      inside = omega (arith, c.in-Ok.ensures.taken.1, ap length rest, length-drop at line);
      read = (
        next.0,
        next.1,
        text
            ∙ (ap (λ z. z ++ take taken (drop at line)) read.2 ∙ sym (take-add at taken line)),
      );
    }

pub returns-in-Err-clause-longest : goal.returns-in-Err-clause-longest
returns-in-Err-clause-longest c =
    let line : List ℕ = c.args.line.now in
    let at : ℕ = c.loop-at.at in
    let read = c.loop-at.invariant.read in
    let stop : IsStop (take at line) (drop at line) c.in-Err.more =
    rw (← take_rest line at, ← read.2) (c.in-Err.ensures.stop read.0 read.1) in
    longest_prefix line (at + c.in-Err.more)
    (stop_joined MAX_STATES MAX_SYMBOLS line at c.in-Err.more c.loop-at.invariant.inside stop)

pub returns-in-Err-clause-bounded : goal.returns-in-Err-clause-bounded
returns-in-Err-clause-bounded c = prefix_bounded c.args.line.now _ (returns-in-Err-clause-longest c)

pub returns-clause-longest : goal.returns-clause-longest
returns-clause-longest c =
    let line : List ℕ = c.args.line.now in
    let read = c.loop-at.invariant.read in
    let all : c.loop-at.at ≡ length line = search rules in
    rw all (whole_prefix line read.0 read.1.begun (read.2 ∙ take_all c.loop-at.at line (omega (arith, all))))

pub returns-clause-bounded : goal.returns-clause-bounded
returns-clause-bounded c = prefix_bounded c.args.line.now _ (returns-clause-longest c)
