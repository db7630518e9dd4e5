use Rattle.std.proofs.Common.{rules, ◌≡◌, sym, ap, ◌∙◌, map, string_bytes, [], ◌∷◌, length, slice_get, Some, arith}
use Rattle.std.proofs.lemmas.Result.{err_from_is_err_and}
use Rattle.rng_load.specs.views.FilesView.{names_of, taken_files_of}
use Rattle.rnc_model.specs.loading.SchemaFile.{named_files}
use Rattle.rnc_model.specs.loading.Loading.{with_name}
use Rattle.rng_load.proofs.LoadOrder.NameSets.{names_after_insert}
use Rattle.rng_load.proofs.LoadOrder.TakenFiles.{none_firm, all_read}
use Rattle.rng_load.proofs.LoadOrder.HandedIn.{length_named}
use Rattle.rng_load.proofs.LoadOrder.ReadInOrder.{name_at, no_name_left, length_entries, as_told, goes_on, fewer_left}
use Rattle.rng_load.proofs.order.load_in_order.Goals as goal

pub files-init : goal.files-init
files-init c =
    let none : taken_files_of c.new-trees.result ≡ [] = search rules in
    let none_names : names_of c.new-names.result ≡ [] = search rules in
    none_firm none (ap (map string_bytes) c.in_ok-insert.ensures.keys ∙ names_after_insert c.new-names.result.keys c.in_ok-from_str.field-0
    ∙ ap (λ ns. with_name ns (string_bytes c.in_ok-from_str.field-0)) none_names ∙ ap (λ n. n ∷ []) c.in_ok-from_str.ensures.ok)

pub returns-in_err-tree : goal.returns-in_err-tree
returns-in_err-tree c =
    let p = err_from_is_err_and c.from_residual-in_err-tree.result c.from_residual-in_err-tree.ensures.1 in
    let index : c.len.result ≡ length c.files.trees.entries = search rules in
    let at = ap (slice_get (names_of c.files.names)) (sym index) ∙ name_at c.files.names.keys c.len.result c.in-Some.ensures.key
    ∙ ap Some (sym c.as_str.ensures.value ∙ sym c.in_ok-name.ensures.ok) in
    rw (p.1, p.2) (as_told (named_files c.args.files.now) c.args.main.now c.files.trees.entries (names_of c.files.names) c.files.invariant c.in_ok-name.name at
    c.as_str-in-Some.result.now c.as_str-in-Some.ensures.value c.in_err-tree.field-0.0 c.in_err-tree.ensures)

pub files-smaller : goal.files-smaller
files-smaller c =
    let index : c.len.result ≡ length c.files.trees.entries = search rules in
    let at = ap (slice_get (names_of c.files.names)) (sym index) ∙ name_at c.files.names.keys c.len.result c.in-Some.ensures.key
    ∙ ap Some (sym c.as_str.ensures.value ∙ sym c.in_ok-name.ensures.ok) in
    let less = fewer_left (named_files c.args.files.now) c.args.main.now c.files.trees.entries (names_of c.files.names) c.files.invariant c.in_ok-name.name at
    c.in_ok-tree.tree c.as_str-in-Some.result.now c.as_str-in-Some.ensures.value c.in_ok-tree.ensures c.put.new.map.entries (names_of c.note_all.new.names)
    c.in_ok-put.ensures c.in_ok-note_all.ensures in
    omega (arith, less, length_named c.args.files.now)

pub files-preserved : goal.files-preserved
files-preserved c =
    let index : c.len.result ≡ length c.files.trees.entries = search rules in
    let at = ap (slice_get (names_of c.files.names)) (sym index) ∙ name_at c.files.names.keys c.len.result c.in-Some.ensures.key
    ∙ ap Some (sym c.as_str.ensures.value ∙ sym c.in_ok-name.ensures.ok) in
    goes_on (named_files c.args.files.now) c.args.main.now c.files.trees.entries (names_of c.files.names) c.files.invariant c.in_ok-name.name at
    c.in_ok-tree.tree c.as_str-in-Some.result.now c.as_str-in-Some.ensures.value c.in_ok-tree.ensures c.put.new.map.entries (names_of c.note_all.new.names)
    c.in_ok-put.ensures c.in_ok-note_all.ensures

pub returns : goal.returns
returns c =
    let index : c.len.result ≡ length c.files.trees.entries = search rules in
    let end = no_name_left c.files.names.keys c.len.result c.in_default.ensures.key in
    all_read _ _ _ (record { names = names_of c.files.names; firm = c.files.invariant; all = omega (arith, end, index, length_entries c.files.trees.entries) })
