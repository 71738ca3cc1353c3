use Rattle.std.proofs.Common.{◌≤◌, rules}
use Rattle.bb_machine.proofs.Drafts.{later_whole, first_whole}
use Rattle.bb_machine.proofs.machine.reader.Draft.is_whole.Goals as goal

pub returns-then-self-gt1 : goal.returns-then-self-gt1
returns-then-self-gt1 c b draft =
    let on = later_whole c.args.self.now b draft c.if-self-gt1.true in
    (λ yes. on.1 (search rules), λ whole. let same = on.0 whole in search rules)

pub returns-then-self-ge2 : goal.returns-then-self-ge2
returns-then-self-ge2 c b draft =
    let on = first_whole c.args.self.now b draft c.if-self-gt1.false in (
      λ yes. let few : c.args.self.now.named_symbols ≤ c.args.self.now.filled = search rules in
          on.1 (c.if-self-ge2.true, few),
      λ whole. let few : c.args.self.now.named_symbols ≤ c.args.self.now.filled = (on.0 whole).1 in
          search rules,
    )

pub returns-else-self-ge2 : goal.returns-else-self-ge2
returns-else-self-ge2 c b draft =
    let on = first_whole c.args.self.now b draft c.if-self-gt1.false in
    (λ yes. absurd (search rules), λ whole. let two = (on.0 whole).0 in absurd (search rules))
