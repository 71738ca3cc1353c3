use Rattle.bb_decide.proofs.SinglePass.{single_pass_at_first}
use Rattle.bb_decide.proofs.Translations.{searching_at_first}
use Rattle.bb_decide.proofs.single_pass.SinglePass.start.Goals as goal

pub returns-clause-begun : goal.returns-clause-begun
returns-clause-begun g c key bounds right left =
    let start = c.start-runner.ensures in
    record {
      search = searching_at_first start.stands start.steps c.new.ensures c.new-2.ensures;
      single_pass = rw c.new-3.ensures
          (single_pass_at_first _ _ _ _ _ start.stands start.steps c.requires.wide);
    }
