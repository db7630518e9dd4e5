use Rattle.std.proofs.Common.{rules, ◌≡◌, ◌∙◌, ◌<◌, ◌+◌, ◌++◌, ◌∷◌, [], ap, sym, length, map, string_bytes, take}
use Rattle.std.proofs.lemmas.List.{map_more}
use Rattle.rncv_c_values.specs.views.Mentions.{with_ends}
use Rattle.rncv_c_values.proofs.JoinedNames.{one_more}
use Rattle.rncv_c_values.proofs.mentioned.joined.Goals as goal

pub loop-name-preserved : goal.loop-name-preserved
loop-name-preserved c =
    let within : c.loop-name.name-index < length c.args.names.now = search rules in
    let pushed : c.push.new.self.items ≡ (c.loop-name.text.items ++ string_bytes c.name-item.result) ++ 0 ∷ [] = search rules in
    let more : map string_bytes (take (c.loop-name.name-index + 1) c.args.names.now)
    ≡ map string_bytes (take c.loop-name.name-index c.args.names.now) ++ string_bytes c.name-item.result ∷ []
    = map_more string_bytes c.args.names.now c.loop-name.name-index c.name-item.result within
    ∙ ap (λ n. map string_bytes (take c.loop-name.name-index c.args.names.now) ++ string_bytes n ∷ []) (sym c.name-item.is) in
    pushed ∙ ap (λ t. (t ++ string_bytes c.name-item.result) ++ 0 ∷ []) c.loop-name.invariant
    ∙ sym (ap with_ends more ∙ one_more (map string_bytes (take c.loop-name.name-index c.args.names.now)) (string_bytes c.name-item.result))
