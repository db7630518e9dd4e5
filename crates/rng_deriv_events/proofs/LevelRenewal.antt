-- Renewal: the same patterns under other numbers.
use Rattle.std.proofs.Common.{◌≡◌, ℕ, ◌<◌, ◌≤◌, ◌+◌, List, [], ◌∷◌, ◌++◌, length, map, fold, take, drop, refl, sym, ap, ◌∙◌, subst, All, arith}
use Rattle.std.proofs.Common.{ap₂, append_assoc, slice_get, slice_set, slice_index_or, None, Some}
use Rattle.std.specs.List.{AllZip}
use Rattle.std.proofs.lemmas.List.{length-take, take_more, take_more_set, drop_more, drop-set-lt, length-set, length-append, length-map, length-drop}
use Rattle.std.proofs.lemmas.List.Elements.{All-append, All-map, All-nil, All-head, All-tail, All-weaker}
use Rattle.rng_model.specs.simple.Tree.{Simple}
use Rattle.rng_model.specs.documents.PyxTrees.{Event}
use Rattle.rng_model.specs.matching.GrammarMatching.{Reading}
use Rattle.rng_deriv_laws.specs.plain.LevelStates as level
use Rattle.rng_deriv_table.specs.declared.pattern.PatternNumber.{PatternNumber}
use Rattle.rng_deriv_events.specs.views.Numbers.{IsInside, AreRenewed, tree_of}
use Rattle.rng_deriv_events.specs.views.Levels.{IsRestWithin, link_of}
use Rattle.rng_deriv_events.specs.declared.level_table.step.Step.{Step}
use Rattle.rng_deriv_events.specs.declared.level_table.step.StepNumber.{StepNumber}
use Rattle.rng_deriv_events.specs.views.OpenPositions.{OpenPosition, level_at, open_level, step_level}
use Rattle.rng_deriv_events.specs.views.States.{IsLevelInside, IsStateInside, OpenLevel, OpenState, with_level}
use Rattle.rng_deriv_events.specs.views.Strings.{IsHeld}
use Rattle.rng_deriv_events.specs.views.Positions.{HasCome}
use Rattle.rng_deriv_events.specs.views.LevelRenewal.{AreWaysRenewed, IsLevelRenewed, IsLinkRenewed, IsPositionRenewed, IsRenewed, IsStateRenewed, rests_in}
use Rattle.rng_deriv_events.specs.views.LevelRenewal.{rests_of, with_rests}
use Rattle.rng_deriv_events.specs.declared.level_table.link.Link.{Link}
use Rattle.rng_deriv_events.specs.declared.state.WaysOut.{WaysOut}
use Rattle.rng_deriv_events.proofs.AddedLinks.{zip_all, zip_push, zip_weaker}
use Rattle.rng_deriv_events.proofs.Numbers.{map_push}

-- ---- what is held

ways_rests_inside : (trees : List (Simple ℕ)) (l : WaysOut) → IsLevelInside trees (open_level l) → All (IsInside trees) (rests_of l.links.items)
ways_rests_inside trees l inside =
    All-map (IsInside trees) (λ k. k.rest) l.links.items
    (All-weaker (IsRestWithin trees l.around) (λ k. IsInside trees k.rest) (λ k w. w.1) l.links.items inside)

pub rests_inside : (trees : List (Simple ℕ)) (ls : List WaysOut) → All (λ (w : WaysOut). IsLevelInside trees (open_level w)) ls
    → All (IsInside trees) (rests_in ls)
rests_inside trees [] all = All-nil (IsInside trees)
rests_inside trees (l ∷ ls) all =
    let Inside : WaysOut → Type 0 = λ w. IsLevelInside trees (open_level w) in
    All-append (IsInside trees) (rests_of l.links.items) (rests_in ls) (ways_rests_inside trees l (All-head Inside l ls all))
    (rests_inside trees ls (All-tail Inside l ls all))

-- ---- pairs of numbers

pub zip_split : {A B : Type 0} (R : A → B → Type 0) (xs ys : List A) (ns : List B) → AllZip R (xs ++ ys) ns
    → AllZip R xs (take (length xs) ns) × AllZip R ys (drop (length xs) ns)
zip_split R [] ys ns h = (tt, h)
zip_split R (x ∷ xs) ys [] h = absurd h
zip_split R (x ∷ xs) ys (n ∷ ns) h = let more = zip_split R xs ys ns h.1 in ((h.0, more.0), more.1)

module _ (old new : List (Simple ℕ)) where
  each_renewed : (ps ns : List PatternNumber) → All (IsInside new) ns → map (tree_of new) ns ≡ map (tree_of old) ps → AllZip (IsRenewed old new) ps ns
  each_renewed [] [] inside same = tt
  each_renewed [] (n ∷ ns) inside same = absurd (cc)
  each_renewed (p ∷ ps) [] inside same = absurd (cc)
  each_renewed (p ∷ ps) (n ∷ ns) inside same =
      let first : tree_of new n ≡ tree_of old p = cc in
      let more : map (tree_of new) ns ≡ map (tree_of old) ps = cc in
      ((All-head (IsInside new) n ns inside, first), each_renewed ps ns (All-tail (IsInside new) n ns inside) more)

  trees_same : (ps ns : List PatternNumber) → AllZip (IsRenewed old new) ps ns → map (tree_of new) ns ≡ map (tree_of old) ps
  trees_same [] [] h = refl
  trees_same [] (n ∷ ns) h = absurd h
  trees_same (p ∷ ps) [] h = absurd h
  trees_same (p ∷ ps) (n ∷ ns) h = let first = h.0.1 in let more = trees_same ps ns h.1 in rw (first, more) refl

  links_renewed : (ls : List Link) (ns : List PatternNumber) → AllZip (IsRenewed old new) (rests_of ls) ns
      → AllZip (IsLinkRenewed old new) ls (with_rests ls ns)
  links_renewed [] ns h = tt
  links_renewed (l ∷ ls) [] h = absurd h
  links_renewed (l ∷ ls) (n ∷ ns) h = (record { inner = refl; outer = refl; rest = h.0 }, links_renewed ls ns h.1)

  links_same : (ls ks : List Link) → AllZip (IsLinkRenewed old new) ls ks → map (link_of new) ks ≡ map (link_of old) ls
  links_same [] [] h = refl
  links_same [] (k ∷ ks) h = absurd h
  links_same (l ∷ ls) [] h = absurd h
  links_same (l ∷ ls) (k ∷ ks) h =
      let inner = h.0.inner in
      let outer = h.0.outer in
      let rest = h.0.rest.1 in
      let more = links_same ls ks h.1 in
      rw (inner, outer, rest, more) refl

  folds_same : (acc : List (List level.Link)) (ls ks : List OpenLevel) → AllZip (IsLevelRenewed old new) ls ks
      → fold (with_level new) acc ks ≡ fold (with_level old) acc ls
  folds_same acc [] [] h = refl
  folds_same acc [] (k ∷ ks) h = absurd h
  folds_same acc (l ∷ ls) [] h = absurd h
  folds_same acc (l ∷ ls) (k ∷ ks) h =
      ap (λ m. fold (with_level new) (m ∷ acc) ks) (links_same l.links k.links h.0.links)
      ∙ folds_same (map (link_of old) l.links ∷ acc) ls ks h.1

  level_inside : (l k : OpenLevel) → IsLevelRenewed old new l k → IsLevelInside old l → IsLevelInside new k
  level_inside l k r inside =
      zip_all (IsLinkRenewed old new) (IsRestWithin old l.around) (IsRestWithin new k.around)
      (λ m n s w. let e = s.outer in let a = r.around in let lt = w.0 in (omega (arith, e, a, lt), s.rest.0)) l.links k.links r.links inside

  pub state_renewed : (s t : OpenState) (held : List PatternNumber) (numbers : List PatternNumber) (ways left : List WaysOut) → IsStateInside old s
      → s.levels ≡ map open_level ways → t.levels ≡ map open_level left → held ≡ s.now ++ rests_in ways → AreRenewed old new held numbers
      → t.now ≡ take (length s.now) numbers
      → (AllZip (IsRenewed old new) (rests_in ways) (drop (length s.now) numbers) → AllZip (AreWaysRenewed old new) ways left)
      → IsStateRenewed old new s t
  state_renewed s t held numbers ways left inside before after is r now put =
      let each = subst (λ ps. AllZip (IsRenewed old new) ps numbers) is (each_renewed held numbers r.inside r.same) in
      let parts = zip_split (IsRenewed old new) s.now (rests_in ways) numbers each in
      let alternatives = subst (AllZip (IsRenewed old new) s.now) (sym now) parts.0 in
      let stored = zip_weaker (AreWaysRenewed old new) (IsLevelRenewed old new) open_level open_level (λ l k h. h) ways left (put parts.1) in
      let levels : AllZip (IsLevelRenewed old new) s.levels t.levels =
      subst (λ ls. AllZip (IsLevelRenewed old new) ls t.levels) (sym before) (subst (AllZip (IsLevelRenewed old new) (map open_level ways)) (sym after) stored) in
      let trees = trees_same s.now t.now alternatives in
      let folds = folds_same [] s.levels t.levels levels in
      record {
        inside = record {
          now = zip_all (IsRenewed old new) (IsInside old) (IsInside new) (λ p n h i. h.0) s.now t.now alternatives inside.now;
          levels = zip_all (IsLevelRenewed old new) (IsLevelInside old) (IsLevelInside new) level_inside s.levels t.levels levels inside.levels;
        };
        same = rw (trees, folds) refl;
      }

-- ---- putting numbers back, one after another

pub with_none : (ls : List Link) → with_rests ls [] ≡ ls
with_none [] = refl
with_none (l ∷ ls) = refl

abbrev with_rest : Link → PatternNumber → Link
with_rest l n = record { inner = l.inner; outer = l.outer; rest = n }

with_more : (ls : List Link) (ns : List PatternNumber) (n : PatternNumber) (d : Link) → length ns < length ls →
    with_rests ls (ns ++ n ∷ []) ≡ slice_set (with_rests ls ns) (length ns) (with_rest (slice_index_or (with_rests ls ns) (length ns) d) n)
with_more [] ns n d lt = absurd (omega (arith, lt))
with_more (l ∷ ls) [] n d lt = ap (λ ks. with_rest l n ∷ ks) (with_none ls)
with_more (l ∷ ls) (m ∷ ns) n d lt = ap (λ ks. with_rest l m ∷ ks) (with_more ls ns n d (omega (arith, lt)))

pub with_at : (ls ks : List Link) (ns : List PatternNumber) (i : ℕ) (d : PatternNumber) (e l : Link) → ks ≡ with_rests ls (take i ns) → i < length ns →
    length ns ≡ length ls → l ≡ slice_index_or ks i e →
    slice_set ks i (record { inner = l.inner; outer = l.outer; rest = slice_index_or ns i d }) ≡ with_rests ls (take (i + 1) ns)
with_at ls ks ns i d e l is lt count at =
    let n = slice_index_or ns i d in
    let here : length (take i ns) ≡ i = let t = length-take i ns in omega (arith, t, lt) in
    let more = with_more ls (take i ns) n e (omega (arith, here, lt, count)) in
    sym (ap (with_rests ls) (take_more ns i d lt) ∙ more
    ∙ ap (λ k. slice_set (with_rests ls (take i ns)) k (with_rest (slice_index_or (with_rests ls (take i ns)) k e) n)) here
    ∙ ap (λ ks. slice_set ks i (with_rest (slice_index_or ks i e) n)) (sym is) ∙ ap (λ l. slice_set ks i (with_rest l n)) (sym at))

-- the first i levels have their new numbers
pub record ArePut (ls : List WaysOut) (numbers : List PatternNumber) (i : ℕ) (ks : List WaysOut) (behind : List PatternNumber) : Type 0 where
  pub count : length ks ≡ length ls
  pub ahead : drop i ks ≡ drop i ls
  pub enough : length (rests_in (drop i ls)) ≤ length behind
  pub renewed : (old new : List (Simple ℕ)) → AllZip (IsRenewed old new) (rests_in ls) numbers
      → AllZip (AreWaysRenewed old new) (take i ls) (take i ks) × AllZip (IsRenewed old new) (rests_in (drop i ls)) behind

module _ (ls : List WaysOut) (numbers : List PatternNumber) (i : ℕ) (ks : List WaysOut) (behind : List PatternNumber) (p : ArePut ls numbers i ks behind)
    (d : WaysOut) (lt : i < length ks) where
  place : i < length ls
  place = let e = p.count in omega (arith, e, lt)

  here : drop i ls ≡ slice_index_or ks i d ∷ drop (i + 1) ks
  here = sym p.ahead ∙ drop_more ks i d lt

  same : slice_index_or ls i d ≡ slice_index_or ks i d
  same = let e = here in let f = drop_more ls i d place in cc

  tails : drop (i + 1) ks ≡ drop (i + 1) ls
  tails = let e = here in let f = drop_more ls i d place in cc

  rests : rests_in (drop i ls) ≡ rests_of (slice_index_or ks i d).links.items ++ rests_in (drop (i + 1) ls)
  rests = ap rests_in here ∙ ap (λ xs. rests_of (slice_index_or ks i d).links.items ++ rests_in xs) tails

  count : length (rests_in (drop i ls)) ≡ length (slice_index_or ks i d).links.items + length (rests_in (drop (i + 1) ls))
  count =
      ap length rests ∙ length-append (rests_of (slice_index_or ks i d).links.items) (rests_in (drop (i + 1) ls))
      ∙ ap (λ n. n + length (rests_in (drop (i + 1) ls))) (length-map (slice_index_or ks i d).links.items (λ l. l.rest))

  pub put_more : (k : WaysOut) (more : List PatternNumber) → k.around ≡ (slice_index_or ks i d).around →
      k.links.items ≡ with_rests (slice_index_or ks i d).links.items (take (length (slice_index_or ks i d).links.items) behind) →
      more ≡ drop (length (slice_index_or ks i d).links.items) behind → ArePut ls numbers (i + 1) (slice_set ks i k) more
  put_more k more around links left = record {
    count = length-set ks i k ∙ p.count;
    ahead = drop-set-lt (i + 1) ks i k (omega arith) ∙ tails;
    enough =
        let e = count in
        let f = p.enough in
        let g = ap length left in
        let h = length-drop (length (slice_index_or ks i d).links.items) behind in
        omega (arith, e, f, g, h);
    renewed = λ old new each.
        let l = slice_index_or ks i d in
        let before = p.renewed old new each in
        let parts = zip_split (IsRenewed old new) (rests_of l.links.items) (rests_in (drop (i + 1) ls)) behind
        (subst (λ ps. AllZip (IsRenewed old new) ps behind) rests before.1) in
        let long : length (rests_of l.links.items) ≡ length l.links.items = length-map l.links.items (λ l. l.rest) in
        let first = links_renewed old new l.links.items (take (length l.links.items) behind)
        (subst (λ n. AllZip (IsRenewed old new) (rests_of l.links.items) (take n behind)) long parts.0) in
        let one : AreWaysRenewed old new l k = record {
          around = around;
          links = subst (AllZip (IsLinkRenewed old new) l.links.items) (sym links) first;
        } in
        let all = zip_push (AreWaysRenewed old new) (take i ls) (take i ks) l k before.0 one in
        let olds : take i ls ++ l ∷ [] ≡ take (i + 1) ls = ap (λ m. take i ls ++ m ∷ []) (sym same) ∙ sym (take_more ls i d place) in
        let news : take i ks ++ k ∷ [] ≡ take (i + 1) (slice_set ks i k) = sym (take_more_set ks i k lt) in (
          subst (λ xs. AllZip (AreWaysRenewed old new) xs (take (i + 1) (slice_set ks i k))) olds
              (subst (AllZip (AreWaysRenewed old new) (take i ls ++ l ∷ [])) news all),
          subst (AllZip (IsRenewed old new) (rests_in (drop (i + 1) ls))) (ap (λ n. drop n behind) long ∙ sym left) parts.1,
        );
  }

-- ---- steps that are carried over

abbrev level_from : ℕ → List Link → OpenLevel
level_from around links = record { around = around; links = links }

pub carried_more : (steps : List Step) (numbers : List StepNumber) (i : ℕ) (d : StepNumber) (s : Step) (first before after : List WaysOut) (w : WaysOut)
    → map open_level before ≡ map open_level first ++ map (level_at steps) (take i numbers) → i < length numbers
    → slice_get steps (slice_index_or numbers i d).0 ≡ Some s → w.links.items ≡ s.links.items → after ≡ before ++ w ∷ []
    → (around : w.around ≡ s.around)
    → map open_level after ≡ map open_level first ++ map (level_at steps) (take (i + 1) numbers)
carried_more steps numbers i d s first before after w done lt at links pushed around =
    let n = slice_index_or numbers i d in
    let level : open_level w ≡ level_at steps n = ap₂ level_from around links ∙ sym (ap step_level at) in
    ap (map open_level) pushed ∙ map_push open_level before w ∙ ap₂ (λ ls l. ls ++ l ∷ []) done level
    ∙ append_assoc (map open_level first) (map (level_at steps) (take i numbers)) (level_at steps n ∷ [])
    ∙ ap (λ ls. map open_level first ++ ls) (sym (map_push (level_at steps) (take i numbers) n) ∙ sym (ap (map (level_at steps)) (take_more numbers i d lt)))

-- ---- positions

pub position_renewed : (old new : List (Simple ℕ)) (p q : OpenPosition) → IsStateRenewed old new p.state q.state → p.held ≡ None → q.held ≡ None →
    q.has_begun ≡ p.has_begun → IsPositionRenewed old new p q
position_renewed old new p q r before after begun = λ g m of. record {
  state = of.state ∙ sym r.same;
  has_begun = of.has_begun ∙ sym begun;
  held = subst (λ h. IsHeld g new q.state.now h m.held) (sym after) (subst (λ h. IsHeld g old p.state.now h m.held) before of.held);
}

pub come_renewed : (g : Reading) (old new : List (Simple ℕ)) (p q : OpenPosition) (line : ℕ) (es : List Event) → IsPositionRenewed old new p q →
    HasCome g old p line es → HasCome g new q line es
come_renewed g old new p q line es r come = record {
  matcher = come.matcher;
  position = r g come.matcher come.position;
  stands = come.stands;
  known = come.known;
  left = come.left;
  last = come.last;
}
