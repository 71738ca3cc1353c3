use Rattle.std.proofs.Common.{◌≡◌, pos, ap, inl, inr, arith, refl, w64}
use Rattle.std.proofs.Common.{rules}
use Rattle.std.proofs.Common.{◌∙◌, FitsSigned}
use Rattle.std.proofs.lemmas.Int.{ints, to_z-of_z}
use Rattle.bb_sim.specs.Runner.{position_of}
use Rattle.bb_cert.specs.records.Follow.{number_of, top_of}
use Rattle.bb_cert.proofs.Facts.{are_narrow, out_as_far}
use Rattle.bb_decide.proofs.record_search.compare_and_keep.Given as given
use Rattle.bb_decide.proofs.record_search.compare_and_keep.Goals as goal
use Rattle.bb_decide.proofs.record_search.compare_and_keep.Goals.{After-unsigned_abs-2}

pub extent-requires-clause-nearest : goal.extent-requires-clause-nearest
extent-requires-clause-nearest g c =
    (are_narrow (g.met.T.Tape.sound c.args.saved.now) (g.met.T.Tape.sound c.args.run.now)
    (c.requires.ready.comparable (c.agrees.ensures.agree.0 c.if-agrees.true).0)).nearest

pub returns-then-agrees : goal.returns-then-agrees
returns-then-agrees g c = record {
  compared = (
    c.agrees.ensures.agree.0 c.if-agrees.true,
    record {
      extent = c.extent.result;
      is = rw (c.steps.ensures, c.steps-then-agrees.ensures) refl;
      lies = c.extent.ensures;
    },
  );
  numbers = search rules;
  side = refl;
  limit = search rules;
  memory = tt;
  uncounted = refl;
  cut = tt;
}

-- the numbers of the record and of the kept one are how far out they are
as_far : (g : given.Over) (c : After-unsigned_abs-2 g)
    → (pos c.unsigned_abs.result ≡ top_of c.args.records.now c.args.runner)
    × (pos c.unsigned_abs-2.result ≡ number_of c.args.records.now)
as_far g c =
    let head_fits : FitsSigned w64 c.position.result = search rules in
    let kept_fits : FitsSigned w64 c.position-2.result = search rules in
    let head = rw c.position.ensures at (simp to_z-of_z at c.unsigned_abs.ensures.value) in
    let kept = rw c.position-2.ensures at (simp to_z-of_z at c.unsigned_abs-2.ensures.value) in (
      ap pos head ∙ out_as_far c.args.records.now.side (position_of c.args.runner) c.requires.ready.head_out,
      ap pos kept ∙ out_as_far c.args.records.now.side (position_of c.args.records.now.kept)
          c.requires.ready.kept_out,
    )

pub returns-then-unsigned_abs : goal.returns-then-unsigned_abs
returns-then-unsigned_abs g c =
    let far = as_far g (goal.at.returns-then-unsigned_abs g c).After-unsigned_abs-2 in record {
      compared = (
        λ both. let yes = c.agrees.ensures.agree.1 both in let no = c.if-agrees.false in cc,
        inr (omega (arith, ints, far, c.if-unsigned_abs.true), refl, c.agrees.ensures.saved),
      );
      numbers = tt;
      side = refl;
      limit = search rules;
      memory = tt;
      uncounted = refl;
      cut = tt;
    }

pub returns : goal.returns
returns g c =
    let far = as_far g (goal.at.returns g c).After-unsigned_abs-2 in record {
      compared = (
        λ both. let yes = c.agrees.ensures.agree.1 both in let no = c.if-agrees.false in cc,
        inl (omega (arith, ints, far, c.if-unsigned_abs.false), c.keep_record.ensures, c.in-Ok.ensures.ok),
      );
      numbers = tt;
      side = search rules;
      limit = search rules;
      memory = tt;
      uncounted = refl;
      cut = tt;
    }
