use Rattle.std.proofs.Common.{rules}
use Rattle.bb_machine.proofs.Drafts.{draft_push}
use Rattle.bb_machine.proofs.machine.reader.Draft.push.Goals as goal

pub returns : goal.returns
returns c b draft is =
    draft_push c.args.self.now b c.args.entry _ _ draft c.requires is
    (λ m. c.named_symbols.ensures c.args.self.now.symbols m is) (search rules)
