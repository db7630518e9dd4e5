-- A text has more bytes than items, and more bytes than namespaces.
use Rattle.std.proofs.Common.{◌≡◌, ap, ℕ, ◌≤◌, ◌<◌, List, [], ◌∷◌, ◌++◌, length, flat_map, codes, arith}
use Rattle.std.proofs.lemmas.List.{length-append}
use Rattle.rng_model.specs.simple.Grammar.{Grammar}
use Rattle.rncv_model.specs.printed.PrintedText.{item_name, item_text, item_line, namespace_line, namespaces, reference, definition_line, text_of, IsPrinted}
use Rattle.rncv_model.specs.printed.Words.{prefix_of, literal}

each_longer : {A : Type 0} (f : A → List ℕ) → ((a : A) → 0 < length (f a)) → (xs : List A) → length xs ≤ length (flat_map f xs)
each_longer f h [] = omega arith
each_longer f h (x ∷ xs) = let n = h x in let m = each_longer f h xs in let e = length-append (f x) (flat_map f xs) in omega (arith, n, m, e)

line_long : (name w : List ℕ) → 0 < length (definition_line name w)
line_long name w = let e = length-append name (codes " = " ++ (w ++ 0xA ∷ [])) in omega (arith, e)

namespace_long : (ns : List (List ℕ)) (u : List ℕ) → 0 < length (namespace_line ns u)
namespace_long ns u = let e = length-append (codes "namespace ") (definition_line (prefix_of ns u) (literal u)) in omega (arith, e)

pub items_few : (g : Grammar) (text : List ℕ) (p : IsPrinted g text) → (length p.items ≤ length text) × (length (namespaces g p.items) ≤ length text)
items_few g text p =
    let items = p.items in
    let ns = namespaces g items in
    let front = flat_map (namespace_line ns) ns in
    let rest = flat_map (item_line g ns items) items in
    let start = definition_line (codes "start") (reference items g.start) in
    let a = each_longer (item_line g ns items) (λ i. line_long (item_name items i) (item_text g ns items i)) items in
    let b = each_longer (namespace_line ns) (λ u. namespace_long ns u) ns in
    let e = length-append front (start ++ rest) in
    let f = length-append start rest in
    let n : length text ≡ length (text_of g items) = ap length p.is in
    (omega (arith, a, e, f, n), omega (arith, b, e, n))
