use Rattle.bb_machine.proofs.Drafts.{draft_close}
use Rattle.bb_machine.proofs.machine.reader.Draft.close.Goals as goal

pub returns : goal.returns
returns c b draft whole = draft_close c.args.self.now b draft whole c.requires
