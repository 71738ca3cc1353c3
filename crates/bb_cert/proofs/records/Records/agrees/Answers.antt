use Rattle.std.proofs.Common.{◌≡◌, ◌<ℤ◌, ◌≤ℤ◌, ℤ, pos, inr, Err, arith, ap, sym, subst, w64, rules}
use Rattle.std.proofs.Common.{FitsSigned}
use Rattle.std.proofs.lemmas.Int.{ints, to_z-of_z}
use Rattle.bb_tape.specs.TapeView.{TapeView, visited, width}
use Rattle.bb_cert.specs.records.Follow.{HasSameCells, IsComparable, IsKeptInStateOf}
use Rattle.bb_cert.proofs.record_lemmas.Stretches.{room_for, comparable_wider, seen_at}
use Rattle.bb_cert.proofs.records.Records.agrees.Goals as goal
use Rattle.bb_cert.proofs.records.Records.agrees.Given as given

over : (a b : ℤ) → a <ℤ b → b ≤ℤ a → ⊥
over a b h k = omega (arith, ints, h, k)

-- the window of the run has the position, so there is room for it
pub unreachable-requires : goal.unreachable-requires
unreachable-requires g c =
    let r = c.args.self.now in
    let s = g.T.Tape.view c.args.saved.now in
    let comparable = c.requires.comparable (c.is_kept_in_state_of.ensures.0 c.if-not-is_kept_in_state_of.false) in
    let nearest_fits : FitsSigned w64 r.nearest = search rules in
    let refused = simp to_z-of_z at c.in_default.ensures.cells in
    over (pos s.limit) (width (visited s r.nearest)) (refused.0 (ap Err c.in_default.ensures.memory))
    (room_for s (g.T.Tape.view c.args.run.now) r.nearest (g.met.T.Tape.sound c.args.run.now)
    c.requires.limit comparable.low comparable.high comparable.far_seen)

-- a record is kept in this state, whose tape was widened, and can be compared
record Widened (g : given.Over) (c : goal.In-Ok g) : Type 0 where
  kept : IsKeptInStateOf c.args.self.now c.args.runner.now
  comparable : IsComparable c.args.self.now c.args.runner.now (g.T.Tape.view c.args.saved.now)
      (g.T.Tape.view c.args.run.now)
  reached : g.T.Tape.view c.widen_to.new.tape ≡ visited (g.T.Tape.view c.args.saved.now)
      c.args.self.now.nearest

widened : (g : given.Over) (c : goal.In-Ok g) → Widened g c
widened g c =
    let kept = c.is_kept_in_state_of.ensures.0 c.if-not-is_kept_in_state_of.false in
    let nearest_fits : FitsSigned w64 c.args.self.now.nearest = search rules in
    let reached = simp to_z-of_z at c.in-Ok.ensures.ok in
    record { kept = kept; comparable = c.requires.comparable kept; reached = reached }

pub has_same_cells-requires : goal.has_same_cells-requires
has_same_cells-requires g c =
    let is = widened g c in
    record {
      comparable = rw is.reached (comparable_wider is.comparable);
      far = rw is.reached (seen_at (g.T.Tape.view c.args.saved.now) c.args.self.now.nearest);
    }

pub returns-clause-agree : goal.returns-clause-agree
returns-clause-agree g c =
    let is = widened g c.before in
    let run = (g.T.Tape.view c.args.run.now).content in
    let same = subst (λ (s : TapeView). HasSameCells c.args.self.now c.args.runner.now s.content run)
    is.reached in
    let back = subst (λ (s : TapeView). HasSameCells c.args.self.now c.args.runner.now s.content run)
    (sym is.reached)
    in (
      λ yes. (is.kept, same (c.has_same_cells.ensures.0 yes)),
      λ both. c.has_same_cells.ensures.1 (back both.1),
    )

pub returns-clause-saved : goal.returns-clause-saved
returns-clause-saved g c =
    let is = widened g c.before in
    inr (is.reached, is.comparable.far_seen)
