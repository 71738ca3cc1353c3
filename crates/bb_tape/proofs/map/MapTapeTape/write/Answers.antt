use Rattle.std.proofs.Common.{◌≡◌, ◌≤◌, ◌-◌, ◌+◌, arith, ap, w64, None, Some, ◌∙◌, sym}
use Rattle.std.proofs.lemmas.Int.{to_z-of_z}
use Rattle.bb_tape.specs.declared.tape.TheConstants.{MAX_SYMBOL}
use Rattle.bb_tape.specs.Content.{with_cell}
use Rattle.bb_tape.specs.Entries.{content_of}
use Rattle.bb_tape.specs.Windowed.{view_of}
use Rattle.bb_tape.proofs.Sound.{sound_written}
use Rattle.bb_tape.proofs.MapContent.{content_of-updated}
use Rattle.bb_tape.proofs.Outcome.{settled}
use Rattle.bb_tape.proofs.map.MapTapeTape.write.Goals as goal

pub invariant_of-self : goal.invariant_of-self
invariant_of-self g c =
    let a = c.args.self.now in
    let e : content_of c.remove.new.self.entries ≡ with_cell (content_of a.cells.entries) c.args.p 0 =
    content_of-updated _ _ c.args.p _ None (to_z-of_z w64 _ c.ranges.p) c.remove.ensures.updates.0 in
    record {
      sound =
          rw e (sound_written _ a.window c.args.p 0 a.sound c.requires.inside.0 c.requires.inside.1
          (omega arith));
    }

pub returns-then-v-eq0-clause-ok : goal.returns-then-v-eq0-clause-ok
returns-then-v-eq0-clause-ok g c =
    let a = c.args.self.now in
    let e : content_of c.remove.new.self.entries ≡ with_cell (content_of a.cells.entries) c.args.p 0 =
    content_of-updated _ _ c.args.p _ None (to_z-of_z w64 _ c.ranges.p) c.remove.ensures.updates.0 in
    ap (λ d. view_of d a.window)
    (e ∙ ap (with_cell (content_of a.cells.entries) c.args.p) (sym c.if-v-eq0.true))

pub invariant_of-self-2 : goal.invariant_of-self-2
invariant_of-self-2 g c =
    let a = c.args.self.now in
    settled c.insert.result c.insert.ensures.updates c.insert.ensures.err
    (λ put.
    let e : content_of c.insert.new.self.entries
    ≡ with_cell (content_of a.cells.entries) c.args.p (c.args.v - 1 + 1) =
    content_of-updated _ _ c.args.p _ (Some (c.args.v - 1)) (to_z-of_z w64 _ c.ranges.p) put.0 in
    let v : c.args.v - 1 + 1 ≤ MAX_SYMBOL = omega (arith, c.requires.symbol) in
    record {
      sound =
          rw e (sound_written _ a.window c.args.p (c.args.v - 1 + 1) a.sound c.requires.inside.0
          c.requires.inside.1 v);
    })
    (λ kept.
    let e : content_of c.insert.new.self.entries ≡ content_of a.cells.entries =
    ap content_of {x = c.insert.new.self.entries} kept in
    record { sound = rw e a.sound })

pub returns-in-Ok-clause-ok : goal.returns-in-Ok-clause-ok
returns-in-Ok-clause-ok g c =
    let a = c.args.self.now in
    let e : content_of c.insert.new.self.entries
    ≡ with_cell (content_of a.cells.entries) c.args.p (c.args.v - 1 + 1) =
    content_of-updated _ _ c.args.p _ (Some (c.args.v - 1)) (to_z-of_z w64 _ c.ranges.p)
    c.in-Ok.ensures.updates.0 in
    let v : c.args.v - 1 + 1 ≡ c.args.v = omega arith in
    ap (λ d. view_of d a.window) (e ∙ ap (with_cell (content_of a.cells.entries) c.args.p) v)
