use Rattle.std.proofs.Common.{refl}
use Rattle.bb_cover.proofs.Wholes.{has_come, is_cover}
use Rattle.bb_cover.proofs.list.run_cover.Goals as goal

pub returns-clause-ends : goal.returns-clause-ends
returns-clause-ends g c =
    let ends = c.in_ok-drain_lines.ensures.ends in
    let come = has_come (λ d. d.task.now) (λ d. d.progress.now) _ _ c.drain_lines.new.sink refl c.in-Ok.ensures refl
    c.new-2.ensures ends.2.1 in (
      ends.0,
      ends.1,
      (
        ends.2.0,
        is_cover c.args.task.now _ c.drain_lines.new.sink.progress.now come _ refl c.found.ensures,
      ),
    )
