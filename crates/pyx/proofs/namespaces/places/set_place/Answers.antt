use Rattle.std.proofs.Common.{◌≡◌, ◌∙◌, Some, cond, ap, rules, string_bytes}
use Rattle.std.specs.Str.{bytes_eq}
use Rattle.std.proofs.lemmas.Map.Text.{btree_map_updates_text}
use Rattle.std.proofs.lemmas.Result.{IfOk-at_ok}
use Rattle.pyx.proofs.namespaces.places.set_place.Goals as goal

pub returns-clause-set : goal.returns-clause-set
returns-clause-set c = λ q.
    let key_is = IfOk-at_ok (λ s. string_bytes s ≡ c.args.prefix.now) c.in_ok-key.was c.from_str.ensures.ok in
    let sets = btree_map_updates_text (string_bytes c.in_ok-key.key) c.replace_place.new.prefixes c.insert.new.self _ c.in_ok-insert.ensures.updates in
    rw key_is at (sets q) ∙ ap (λ o. cond (bytes_eq c.args.prefix.now q) (Some c.args.place) o) (c.replace_place.ensures.same (search rules) q)
