use Rattle.std.proofs.Common.{◌≡◌, ◌∙◌, [], ◌∷◌, ◌++◌, sym, subst, ap, refl, rules, append_assoc, string_bytes}
use Rattle.std.proofs.lemmas.Fn.{says_at}
use Rattle.std.specs.Fn.{FnReturnsAt}
use Rattle.std.specs.Vec.Iter.{into_iter_items}
use Rattle.rncv_cli.specs.plain.Answering.{IsReadBy, IsUnreadBy}
use Rattle.rncv_cli.proofs.FilesInOrder.{is_first_unread, is_unreadable, not_memory, one_more}
use Rattle.rncv_cli.proofs.schema_files.read_files.Goals as goal

pub loop-name-preserved : goal.loop-name-preserved
loop-name-preserved g c =
    let so_far = c.loop-name.invariant in
    let name_is : c.as_str.result.now ≡ string_bytes c.in-Some.name = search rules in
    let opened : FnReturnsAt g.O.Fn c.args.open_file (string_bytes c.in-Some.name) c.open_file.result =
    subst (λ name. FnReturnsAt g.O.Fn c.args.open_file name c.open_file.result) name_is (says_at g.O.Fn c.open_file.ensures refl) in
    let more : c.push.new.self.items ≡ c.loop-name.files.items ++ (c.in-Some.name, c.in-Ok.bytes) ∷ [] = search rules in
    record {
      are_read = rw more (one_more (IsReadBy g.O.Fn c.args.open_file g.T.Read.remaining) c.loop-name.yielded c.loop-name.files.items c.in-Some.name c.in-Ok.bytes
          so_far.are_read (record { opened = c.open_file.result; is_opened = opened; is_read = c.in-Ok.ensures.bytes }));
      all = append_assoc c.loop-name.yielded (c.in-Some.name ∷ []) (into_iter_items c.next.new.self)
          ∙ ap (λ rest. c.loop-name.yielded ++ rest) (sym c.in-Some.ensures.steps.0) ∙ so_far.all;
    }

pub returns-in-Err-clause-fault : goal.returns-in-Err-clause-fault
returns-in-Err-clause-fault g c =
    let so_far = c.loop-name.invariant in
    let name_is : c.as_str.result.now ≡ string_bytes c.in-Some.name = search rules in
    let opened : FnReturnsAt g.O.Fn c.args.open_file (string_bytes c.in-Some.name) c.open_file.result =
    subst (λ name. FnReturnsAt g.O.Fn c.args.open_file name c.open_file.result) name_is (says_at g.O.Fn c.open_file.ensures refl) in
    is_unreadable (IsReadBy g.O.Fn c.args.open_file g.T.Read.remaining) (IsUnreadBy g.O.Fn c.args.open_file) c.args.names.items c.in-Some.name c.fault_of.result _
    (λ other. is_first_unread (IsReadBy g.O.Fn c.args.open_file g.T.Read.remaining) (IsUnreadBy g.O.Fn c.args.open_file) c.args.names.items c.loop-name.yielded
    _ _ c.loop-name.files.items c.in-Some.name so_far.all c.in-Some.ensures.steps.0 so_far.are_read
    (record { opened = c.open_file.result; is_opened = opened; is_other = not_memory _ c.open_file.result c.in-Err.error other c.in-Err.ensures.error }))
    c.fault_of.ensures.either
