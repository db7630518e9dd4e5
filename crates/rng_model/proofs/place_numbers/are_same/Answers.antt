use Rattle.std.proofs.Common.{◌≤◌, ◌∙◌, sym, subst, length}
use Rattle.std.specs.Cmp.Lexicographic.{bytes_decides}
use Rattle.std.proofs.lemmas.List.{take_all}
use Rattle.rng_model.proofs.place_numbers.are_same.Goals as goal

pub returns : goal.returns
returns c =
    let bytes = c.args.bytes.now in
    let words = c.args.words.now in
    let n = c.loop-i.i in
    let all' : length words ≤ n = subst (λ m. m ≤ n) c.if-bytes-words.false c.loop-i-test.false in
    sym ((bytes_decides bytes words).1 (sym (take_all n bytes c.loop-i-test.false) ∙ c.loop-i.invariant ∙ take_all n words all'))
