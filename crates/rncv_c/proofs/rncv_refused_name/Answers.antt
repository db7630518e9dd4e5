use Rattle.std.proofs.Common.{rules, ◌≡◌, ◌∙◌, sym, pos, w32, to_z, of_z}
use Rattle.rncv_c_values.specs.views.Codes.{code_of}
use Rattle.rncv_c_values.specs.declared.status.Status.{Status}
use Rattle.rncv_c_values.specs.declared.status.Status.TheVariants as status
use Rattle.rncv_c.proofs.rncv_refused_name.Goals as goal

-- only misuse has this number
misuse_of : (s : Status) → code_of s ≡ pos 4 → s ≡ status.Misuse
misuse_of status.Done e = cc
misuse_of status.Refused e = cc
misuse_of status.Malformed e = cc
misuse_of status.Memory e = cc
misuse_of status.Misuse e = cc
misuse_of status.Space e = cc

pub returns-clause-misuse : goal.returns-clause-misuse
returns-clause-misuse c = λ e named name.
    let coded : to_z w32 (of_z w32 c.code.result) ≡ code_of c.refused_name.result = search rules in
    c.refused_name.ensures.misuse (misuse_of _ (sym coded ∙ e)) named name
