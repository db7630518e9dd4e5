-- What is declared, in the code and as it is viewed.
use Rattle.std.proofs.Common.{◌≡◌, ◌∙◌, ap, sym, ℕ, List, Bool, true, false, cond, not, Option, Some, None, is_some, is_none, option_map, refl, Bor}
use Rattle.std.proofs.Math.Path.{fun_ext}
use Rattle.std.proofs.lemmas.Map.Text.{hash_map_updates_str}
use Rattle.std.specs.HashMap.{HashMap, UpdatesBy, get_by}
use Rattle.std.specs.Str.{bytes_eq}
use Rattle.rnc_model.specs.declarations.Declarations.{with_one}
use Rattle.rnc_grammar.specs.views.Resolved.{table_view}

seen_either : {A B : Type 0} (view : A → B) (b : Bool) (first second : Option A) → option_map view (cond b first second) ≡ cond b (option_map view first)
    (option_map view second)
seen_either view true first second = refl
seen_either view false first second = refl

none_seen : {A B : Type 0} (view : A → B) (found : Option A) → is_none (option_map view found) ≡ not (is_some found)
none_seen view None = refl
none_seen view (Some found) = refl

-- one prefix more, if it is not declared yet
pub one_is_new : {A B Z : Type 0} (view : A → B) (p : List ℕ) (a : A) (old new : HashMap (Bor (List ℕ)) A Z) (before : Option A)
    → before ≡ get_by (λ k. bytes_eq p k.now) old → is_some before ≡ false →
    UpdatesBy (λ x y. bytes_eq x.now y.now) (λ k. bytes_eq p k.now) old new (Some a) → with_one p (view a) (table_view view old) ≡ Some (table_view view new)
one_is_new view p a old new before is there updates =
    let none : is_none (table_view view old p) ≡ true = ap (λ found. is_none (option_map view found)) (sym is) ∙ none_seen view before ∙ ap not there in
    let more : table_view view new ≡ (λ q. cond (bytes_eq p q) (Some (view a)) (table_view view old q)) =
    fun_ext (λ q. ap (option_map view) (hash_map_updates_str p old new (Some a) updates q) ∙ seen_either view (bytes_eq p q) (Some a)
    (get_by (λ k. bytes_eq q k.now) old)) in
    rw (none, more) refl
