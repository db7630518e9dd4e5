-- Members resolved one by one, as the code does it, and lists of members as the trees have them.
use Rattle.std.proofs.Common.{◌≡◌, ◌∙◌, sym, ap, ℕ, ◌+◌, ◌<◌, ◌≤◌, List, [], ◌∷◌, ◌++◌, map, length, drop, get_or, Option, Some, None, Err, refl}
use Rattle.std.proofs.lemmas.List.{append-nil, append_assoc, drop_all, drop_more}
use Rattle.rng_model.specs.simple.Tree.{Connector}
use Rattle.rnc_grammar.specs.declared.scope.ScopeFault.{ScopeFault}
use Rattle.rnc_grammar.specs.declared.scope.ScopeFault.TheVariants.{Broken, Memory}
use Rattle.rnc_model.specs.declarations.Declarations.{Scope, ◌>>=◌, class_in, classes_in, pattern_in, patterns_in, component_in, components_in}
use Rattle.rnc_model.specs.grammar.Syntax as syntax
use Rattle.rnc_model.specs.grammar.Syntax.{written}
use Rattle.rnc_grammar.specs.views.Resolved.{Resolves, each}

-- these results, and then those
abbrev pub after : {B : Type 0} → List B → Option (List B) → Option (List B)
after front None = None
after front (Some rest) = Some (front ++ rest)

-- if one member has no result for this reason, the list has none
pub stops_at : {A B E X Y : Type 0} (f : A → Option B) (view : E → A) (part : X → B) (parts : Y → List B) (xs : List E) (i : ℕ) (x : E) (front : List B)
    (reason : ScopeFault) → i < length xs → x ≡ get_or xs i x → each f (map view xs) ≡ after front (each f (map view (drop i xs)))
    → Resolves part (Err reason) (f (view x)) → Resolves parts (Err reason) (each f (map view xs))
stops_at f view part parts xs i x front Memory inside is goes g = tt
stops_at f view part parts xs i x front Broken inside is goes g =
    let next : drop i xs ≡ x ∷ drop (i + 1) xs = drop_more xs i x inside ∙ ap (λ y. y ∷ drop (i + 1) xs) (sym is) in
    rw (goes, next, g) refl

after_one : {B : Type 0} (front : List B) (y : B) (rest : Option (List B)) → after front (rest >>= λ ys. Some (y ∷ ys)) ≡ after (front ++ y ∷ []) rest
after_one front y None = refl
after_one front y (Some ys) = ap Some (sym (append_assoc front (y ∷ []) ys))

-- the loop over the members continues
pub goes_on : {A B E : Type 0} (f : A → Option B) (view : E → A) (xs : List E) (i : ℕ) (x : E) (front more : List B) (y : B) → i < length xs → x ≡ get_or xs i x
    → each f (map view xs) ≡ after front (each f (map view (drop i xs))) → f (view x) ≡ Some y → more ≡ front ++ y ∷ []
    → each f (map view xs) ≡ after more (each f (map view (drop (i + 1) xs)))
goes_on f view xs i x front more y inside is goes g grown =
    let next : drop i xs ≡ x ∷ drop (i + 1) xs = drop_more xs i x inside ∙ ap (λ y. y ∷ drop (i + 1) xs) (sym is) in
    let first : each f (map view (drop i xs)) ≡ (f (view x) >>= λ y. each f (map view (drop (i + 1) xs)) >>= λ ys. Some (y ∷ ys)) =
    ap (λ r. each f (map view r)) next in
    goes ∙ ap (after front) first ∙ ap (λ q. after front (q >>= λ y. each f (map view (drop (i + 1) xs)) >>= λ ys. Some (y ∷ ys))) g
    ∙ after_one front y (each f (map view (drop (i + 1) xs))) ∙ ap (λ m. after m (each f (map view (drop (i + 1) xs)))) (sym grown)

-- the results so far are all, if no member is left
pub is_through : {A B E : Type 0} (f : A → Option B) (view : E → A) (xs : List E) (i : ℕ) (front : List B) → length xs ≤ i
    → each f (map view xs) ≡ after front (each f (map view (drop i xs))) → each f (map view xs) ≡ Some front
is_through f view xs i front end goes = goes ∙ ap (λ r. after front (each f (map view r))) (drop_all i xs end) ∙ ap Some (append-nil front)

-- the result of a list is made of the results of its first member and of the others
row : {B R : Type 0} (and : B → R → R) (rows : List B → R) → ((y : B) (ys : List B) → rows (y ∷ ys) ≡ and y (rows ys))
    → (q : Option B) (others : Option R) (rest : Option (List B)) → others ≡ (rest >>= λ ys. Some (rows ys)) →
    (q >>= λ y. others >>= λ ys. Some (and y ys)) ≡ ((q >>= λ y. rest >>= λ ys. Some (y ∷ ys)) >>= λ ys. Some (rows ys))
row and rows step None others rest e = refl
row and rows step (Some y) others None e = rw e refl
row and rows step (Some y) others (Some ys) e = rw (e, step y ys) refl

classes_row : (s : Scope) (ns : syntax.Namespace) (cs : List (syntax.NameClassAt written)) → classes_in s ns (syntax.classes_of cs) ≡ (each (class_in s ns) cs
    >>= λ cs. Some (syntax.classes_of cs))
classes_row s ns [] = refl
classes_row s ns (c ∷ cs) = row syntax.class_and syntax.classes_of (λ y ys. refl) (class_in s ns c) _ (each (class_in s ns) cs) (classes_row s ns cs)

patterns_row : (s : Scope) (ps : List (syntax.PatternAt written))
    → patterns_in s (syntax.patterns_of ps) ≡ (each (pattern_in s) ps >>= λ ps. Some (syntax.patterns_of ps))
patterns_row s [] = refl
patterns_row s (p ∷ ps) = row syntax.pattern_and syntax.patterns_of (λ y ys. refl) (pattern_in s p) _ (each (pattern_in s) ps) (patterns_row s ps)

pub components_row : (s : Scope) (cs : List (syntax.ComponentAt written)) → components_in s (syntax.components_of cs) ≡ (each (component_in s) cs
    >>= λ cs. Some (syntax.components_of cs))
components_row s [] = refl
components_row s (c ∷ cs) = row syntax.component_and syntax.components_of (λ y ys. refl) (component_in s c) _ (each (component_in s) cs) (components_row s cs)

-- what is made of a list
made : {B R T : Type 0} (rows : List B → R) (make : R → T) (others : Option R) (rest : Option (List B)) → others ≡ (rest >>= λ ys. Some (rows ys))
    → (others >>= λ ys. Some (make ys)) ≡ (rest >>= λ ys. Some (make (rows ys)))
made rows make others None e = rw e refl
made rows make others (Some ys) e = rw e refl

pub choice_in : (s : Scope) (ns : syntax.Namespace) (cs : List (syntax.NameClassAt written)) → class_in s ns (syntax.choice_of cs) ≡ (each (class_in s ns) cs
    >>= λ cs. Some (syntax.choice_of cs))
choice_in s ns cs = made syntax.classes_of syntax.one_of _ (each (class_in s ns) cs) (classes_row s ns cs)

pub members_in : (k : Connector) (s : Scope) (ps : List (syntax.PatternAt written)) → pattern_in s (syntax.members k ps) ≡ (each (pattern_in s) ps
    >>= λ ps. Some (syntax.members k ps))
members_in k s ps = made syntax.patterns_of (syntax.joined k) _ (each (pattern_in s) ps) (patterns_row s ps)

-- if the members have no result for this reason, the whole has none
pub fails : {X Y A B : Type 0} (parts : X → A) (view : Y → B) (whole : A → B) (x : ScopeFault) (all : Option A) (answer : Option B)
    → answer ≡ (all >>= λ all. Some (whole all)) → Resolves parts (Err x) all → Resolves view (Err x) answer
fails parts view whole Memory all answer e g = tt
fails parts view whole Broken all answer e g = rw (e, g) refl

-- if the members have these results, the whole has the result that is made of them
pub found : {Y A B : Type 0} (view : Y → B) (whole : A → B) (parts : A) (all : Option A) (answer : Option B) (y : Y)
    → answer ≡ (all >>= λ all. Some (whole all)) → all ≡ Some parts → view y ≡ whole parts → answer ≡ Some (view y)
found view whole parts all answer y e g is = rw (e, g, is) refl
