-- `into_parts` tests the pointer. If it is null, there is no value. Otherwise the parts own what the handle owned.
use Rattle.std.proofs.Common.{◌≡◌, ℕ, List, [], ◌∷◌, ◌++◌, refl, sym, ap, ◌∙◌, subst, lit<}
use seplogic.Ra.Ura.{Ura}
use mir.Raw.{raw as bare}
use mir.Val.{Val, of_list}
use base.Logic.{SProp, ent, guard_i, id⊢, via, never, fst∗, snd∗}
use base.Fml.{ftrue, fsep, feq}
use prog.Memory.{Memory}
use prog.Routine.{Routine}
use prog.Wp.{WpFn, Tables}
use types.Logic.{Logic, sem}
use types.Kit.{at_ret, given, ‵, ◌⊛◌, ◌$◌, ◌∵◌, !, qed, by, learn, move, drop, use0, use1, join, split, fsplit, fjoin, feq_l, suffices, done}
use types.Match.{live}
use types.Part.{agg, sub, whole}
use types.Run.{lit, bin, stop, fld, of_opd, no_more, and_then, first, branches, skips, exec, returns, returns_within, enter}
use types.ByLocal.{alloc_all, pass_all, free_all, look_at, get, get_in, sets, env}
use contract.Monad.{Fun, fact_use}
use contract.Running.{tables, tables_of}
use denote.Exit.{yes}
use denote.RattleType.{RattleType, owns}
use denote.RawPtr.{Ptr, block_ptr, null_ptr, in_a_block, lies_at, Testable, tests_null}
use base.Fraction.{full_share}
use denote.Memory.{lone}
use denote.Param.{layout}
use denote.Signature.{type_at}
use denote.Steps.{nothing}
use denote.Triple.Walked.{says, Stays, stay_dropped, walk_of, ends_at, Goes-dropped}
use Rattle.std.specs.declared.option.Option.{Option}
use Rattle.std.specs.declared.option.Option.TheVariants.{None, Some}
use Rattle.std.specs.Box.Ownership.{box_owns}
use Rattle.std.proofs.raw_atomic.Walks.{proved_at}
use Rattle.std.proofs.GlobalToken.{dealloc_token-Testable}
use Rattle.core.proofs.cell.Inside.{Good}
use Rattle.core.proofs.option.Made.{Some-of, none_of}
use Rattle.std_heap.specs.contracts.GlobalAllocator.TheImpl.{ghosts}
use Rattle.std_alloc.proofs.ResultValues.{and_tt}
use Rattle.std_alloc.proofs.BoxSteps.Form.{D}
use Rattle.std_alloc.proofs.BoxSteps.Steps.{box_in}
use Rattle.rncv_c_handles.specs.contracts.handle.Held as Held
use Rattle.rncv_c_handles.specs.views.Handles.{handle_owns}
use Rattle.rncv_c_handles.proofs.AsBox.{E, FromHandle}
use Rattle.rncv_c_handles.proofs.Values.{H, Z, word, ptr_good, word_good, handle_out}
use Rattle.rncv_c_handles.specs.contracts.handle.parts.Parts as Parts
use Rattle.rncv_c_handles.specs.contracts.handle.Handle.into_parts as F
use Rattle.rncv_c_handles.specs.contracts.handle.Handle.into_parts.Key.{name as #self}
use Rattle.rncv_c_handles.proofs.handle.Handle.into_parts.Statement.{statement}
use Rattle.rncv_c_handles.proofs.handle.Handle.into_parts.Code as code

abbrev stayed : Stays (F.ended).signature.params (F.ended).kept
stayed = (stay_dropped FromHandle yes, tt)

abbrev To : RattleType
To = Parts.the_row Held.the_row Z ghosts

abbrev Out : RattleType
Out = type_at (F.signature).result tt

module _ {M : Type 1} {𝓤 : Ura M} (𝓛 : Logic 𝓤) (at_mem : Memory → SProp 𝓤) (run : Routine → Fun 𝓤) (𝓣 : Tables 𝓤 𝓛.H) (z : (walk_of 𝓛 F.ended stayed (F.clauses 𝓛 at_mem run)).Ghost) where
  abbrev Post : Val → SProp 𝓤
  Post = (walk_of 𝓛 F.ended stayed (F.clauses 𝓛 at_mem run)).post z

  abbrev Run : List Val → SProp 𝓤
  Run us = WpFn 𝓤 𝓛.H 𝓣.C 𝓣.Λ code.function (us ++ []) Post

  abbrev d : H.Denot
  d = z.0.3.0

  module _ (h : Val) (fits : Good (layout Z) h) where
    at_null : d.held ≡ None → ent 𝓤 (sem 𝓛 (Z.own_val d.alloc (h ∷ []))) (Run (word null_ptr h ∷ []))
    at_null none =
        qed 𝓛 (‵ (Z.own_val d.alloc (h ∷ [])) ∷ []) ∵ drop ! $
        enter ! 𝓣.C 𝓣.Λ code.function (word null_ptr h ∷ []) Post $ alloc_all ! (λ l. pass_all ! refl (word_good null_ptr h fits, tt) $
        sets ! (of_opd ! (get_in ! (fld ! refl (stop !)) (sub ! 0 refl (whole !)))) refl (ptr_good null_ptr) $ sets ! (of_opd ! (get_in ! (fld ! refl (stop !)) (sub ! 1 refl (whole !)))) refl fits $
        sets ! (bin ! (get ! refl) (lit ! tt) tt) refl (tt, tt) $
        first ! $ branches ! (get ! refl)
        (λ _. sets ! (agg ! (and_then ! (lit ! tt) (no_more !))) refl (tt, (record { fits = lit< tt }, tt)) $
        returns_within ! Post refl (look_at ! 0 refl) $ free_all ! refl $
        use0 𝓛 (‵ (Out.own_val None (live 0 (of_list []) ∷ []))) (none_of 𝓛 To) $
        suffices ! _ (ends_at 𝓛 F.ended stayed (F.clauses 𝓛 at_mem run) z (live 0 (of_list [])) None (tt, tt) (tt, tt)) $ says ! (sym none) $
        nothing ! $ nothing ! $ fjoin ! $ join ! $ nothing ! $ join ! $ done !)
        (λ wrong. absurd wrong))

    at_block : (x : (Held.the_row).Denot) (b o : ℕ) → d.held ≡ Some x
        → ent 𝓤 (sem 𝓛 (fsep (box_owns (ghosts.dealloc_token d.alloc) Held.the_row (block_ptr b o) x) (Z.own_val d.alloc (h ∷ [])))) (Run (word (block_ptr b o) h ∷ []))
    at_block x b o some =
        let p : Ptr = block_ptr b o in
        let v : D E = record { ptr = p; alloc = d.alloc; value = x } in
        let made : To.Denot = record { ptr = p; alloc = d.alloc; value = x } in
        let w : Val = word p h in
        let Owned = box_owns (ghosts.dealloc_token d.alloc) Held.the_row p x in
        let token = ghosts.dealloc_token d.alloc (bare (lone (Held.the_row).mir)) p in
        qed 𝓛 (‵ (fsep Owned (Z.own_val d.alloc (h ∷ []))) ∷ []) ∵ fsplit ! $
        use1 𝓛 (given (Testable p) (‵ Owned))
        (fact_use 𝓤 (Testable p) (via 𝓤 (sem 𝓛 token) (snd∗ 𝓤 (sem 𝓛 (lies_at Held.the_row full_share p x)) (sem 𝓛 token)) (dealloc_token-Testable 𝓛 d.alloc (bare (lone (Held.the_row).mir)) p)) (guard_i 𝓤 (Testable p) (sem 𝓛 Owned))) $
        learn ! (λ t. fsplit ! $ box_in E ! v b o x refl refl $ use1 𝓛 (‵ (To.own_val made (w ∷ []))) (id⊢ 𝓤 _) $
        use1 𝓛 (‵ (Out.own_val (Some made) (live 1 (of_list (w ∷ [])) ∷ []))) (Some-of 𝓛 To made w) $
        enter ! 𝓣.C 𝓣.Λ code.function (w ∷ []) Post $ alloc_all ! (λ l. pass_all ! refl (word_good p h fits, tt) $
        sets ! (of_opd ! (get_in ! (fld ! refl (stop !)) (sub ! 0 refl (whole !)))) refl (tt, tt) $ sets ! (of_opd ! (get_in ! (fld ! refl (stop !)) (sub ! 1 refl (whole !)))) refl fits $
        sets ! (bin ! (get ! refl) (lit ! tt) (tests_null p t)) refl (tt, tt) $
        first ! $ branches ! (get ! refl) (λ wrong. absurd wrong)
        (λ _. skips ! $ exec ! 𝓣.C 𝓣.Λ (env (code.function).locals l) code.Mir.t-5 (at_ret _ Post) $
        sets ! (of_opd ! (get ! refl)) refl (tt, tt) $
        sets ! (agg ! (and_then ! (get ! refl) (and_then ! (get ! refl) (no_more !)))) refl (word_good p h fits) $
        let typed = word_good p h fits in let good : Good (layout Out) (live 1 (of_list (w ∷ []))) = (and_tt _ typed.0, (record { fits = lit< tt }, (typed.1, tt))) in
        sets ! (agg ! (and_then ! (lit ! tt) (and_then ! (get ! refl) (no_more !)))) refl good $
        returns ! (look_at ! 0 refl) $ free_all ! refl $
        suffices ! _ (ends_at 𝓛 F.ended stayed (F.clauses 𝓛 at_mem run) z (live 1 (of_list (w ∷ []))) (Some made) (tt, tt) (tt, tt)) $ says ! (sym some) $
        nothing ! $ nothing ! $ fjoin ! $ join ! $ nothing ! $ join ! $ done !)))

    -- by what the handle holds
    cases : (us : List Val) → us ≡ word d.at h ∷ [] → (o : Option (Held.the_row).Denot) → d.held ≡ o
        → ent 𝓤 (sem 𝓛 (fsep (handle_owns d.alloc d.at o) (Z.own_val d.alloc (h ∷ [])))) (Run us)
    cases us ws None held =
        let Kept = Z.own_val d.alloc (h ∷ []) in
        qed 𝓛 (‵ (fsep (feq Ptr d.at null_ptr) Kept) ∷ []) ∵ fsplit ! $ feq_l ! (λ e.
        by ! (subst (λ (vs : List Val). ent 𝓤 (sem 𝓛 Kept) (Run vs)) (sym (ws ∙ ap (λ (p : Ptr). word p h ∷ []) e)) (at_null held)))
    cases us ws (Some x) held =
        let Kept = Z.own_val d.alloc (h ∷ []) in let token = ghosts.dealloc_token d.alloc in
        qed 𝓛 (‵ (fsep (box_owns token Held.the_row d.at x) Kept) ∷ []) ∵ fsplit ! $
        in_a_block ! d.at (λ p. box_owns token Held.the_row p x) (fst∗ 𝓤 (never 𝓤) (sem 𝓛 (token (bare (lone (Held.the_row).mir)) null_ptr))) (λ b o e. fjoin ! $
        by ! (subst (λ (vs : List Val). ent 𝓤 (sem 𝓛 (fsep (box_owns token Held.the_row (block_ptr b o) x) Kept)) (Run vs)) (sym (ws ∙ ap (λ (p : Ptr). word p h ∷ []) e)) (at_block x b o held)))

  walk : ent 𝓤 ((walk_of 𝓛 F.ended stayed (F.clauses 𝓛 at_mem run)).pre z) (Run z.0.4.0)
  walk =
      qed 𝓛 ((‵ ftrue ⊛ ‵ (owns (H ∷ []) z.0.3 z.0.4)) ∷ ‵ ftrue ∷ []) ∵ split ! $ drop ! $ fsplit ! $
      handle_out ! d z.0.4.0 (λ h ws fits. move ! (2 ∷ 3 ∷ []) $ drop ! $ drop ! $ fjoin ! $ by ! (cases h fits z.0.4.0 ws d.held refl))

pub into_parts_spec : {M : Type 1} → statement M
unfolding tables_of
into_parts_spec 𝓤 𝓛 𝓜 𝓡 wired =
    let 𝓣 = tables 𝓤 𝓛.H 𝓜 𝓡 𝓡.env in
    proved_at 𝓛 F.ended stayed (F.clauses 𝓛 𝓜.mem 𝓡.returns) 𝓜 𝓡 (Goes-dropped 𝓛 0 FromHandle yes (λ κs x f. refl), tt) #self code.function (code.unfolded 𝓤 𝓛.H 𝓜 𝓡 wired)
    (λ z are. walk 𝓛 𝓜.mem 𝓡.returns (tables_of 𝓤 𝓛.H 𝓜 𝓣) z)
