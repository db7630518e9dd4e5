use Rattle.std.proofs.Common.{subst}
use Rattle.rnc_places.specs.views.Mentions.{BreaksOnlyAt, IsFaultOfFile}
use Rattle.rncv_c_values.proofs.mentioned.mentions.Goals as goal

pub returns-in-Err-Broken-clause-refused : goal.returns-in-Err-Broken-clause-refused
returns-in-Err-Broken-clause-refused c = λ refused.
    let broken : BreaksOnlyAt c.args.file.now c.in-Err-Broken.clause c.in-Err-Broken.place =
    subst (IsFaultOfFile c.args.file.now) c.in-Err-Broken.field-0-is c.in-Err-Broken.ensures.fault in
    record {
      clause = c.in-Err-Broken.clause;
      place = c.in-Err-Broken.place;
      at = broken.0;
      only = broken.1;
      told_is = let told = c.refusal_at.ensures in let k = c.in-Err-Broken.clause-is in let p = c.in-Err-Broken.place-is in cc;
    }
