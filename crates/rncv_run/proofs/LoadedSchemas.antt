-- The files are at most one schema, and a command judges a document only if this schema is good.
use Rattle.std.proofs.Common.{◌≡◌, ◌≢◌, List, subst, ap, ◌∙◌}
use Rattle.std.proofs.Math.Path.{fun_ext}
use Rattle.rng_model.proofs.Options.{one_value}
use Rattle.rng_model.specs.schema.Schema.{Schema}
use Rattle.rng_model.specs.simple.Table.{Table}
use Rattle.rnc_model.specs.loading.Loading.{TakenFiles, tree_in}
use Rattle.rnc_model.specs.loading.LoadedSchema.{AreSchema, IsSchemaOf}
use Rattle.rnc_model.specs.loading.SchemaFile.{FileName, NamedFile}
use Rattle.rng_load.proofs.Places.OneSchema.{one_schema}
use Rattle.rncv_model.specs.answers.Run.{JudgesDocument}
use Rattle.rncv_model.specs.declared.command.Command.{Command}
use Rattle.rncv_model.specs.declared.command.Command.TheVariants.{Valid}
use Rattle.rncv_validator.specs.views.Validators.{IsOneFor}

same_parts : (s t : Schema) → s.main ≡ t.main → s.components ≡ t.components → s.outer ≡ t.outer → s ≡ t
same_parts s t e f g =
    ap (λ x. record { main = x; components = s.components; outer = s.outer }) e
    ∙ ap (λ x. record { main = t.main; components = x; outer = s.outer }) f
    ∙ ap (λ x. record { main = t.main; components = t.components; outer = x }) g

-- the files are at most one schema
pub same_schema : (read : TakenFiles) (main : FileName) (s t : Schema) → AreSchema read main s → AreSchema read main t → s ≡ t
same_schema read main s t a b =
    let same = one_schema (tree_in read) a.tree s t a.is (subst (λ tree. IsSchemaOf (tree_in read) tree t) (one_value b.main_file a.main_file) b.is) in
    same_parts s t same.0 (fun_ext (λ x. (same.1 x).0)) (fun_ext (λ x. (same.1 x).1))

-- a command that judges no document of a good schema is not `valid`
pub judges_none : (command : Command) (files : List NamedFile) (main : FileName) (g : Table) → IsOneFor files main g → ¬ (JudgesDocument command files main)
    → command ≢ Valid
judges_none command files main g one none = λ e. none (record { command_is = e; schema = one.schema; good = one.are })
