use Rattle.bb_cert.proofs.records.Records.agrees_in_registers.Goals as goal

pub has_same_bits-requires : goal.has_same_bits-requires
has_same_bits-requires c = c.requires (c.is_kept_in_state_of.ensures.0 c.if-not-is_kept_in_state_of.false)
