-- What other crates' proofs cite of this one: what a parse by the command line of a program without
-- subcommands gives.
pub use Rattle.bb_command.proofs.Parses.{no_fault, rows_given, with_arg, words_stop}
