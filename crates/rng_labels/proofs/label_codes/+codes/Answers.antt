use Rattle.std.proofs.Common.{◌≡◌, ◌∷◌, ◌++◌, [], ap, sym, ◌∙◌, map, drop, take, length, ◌-◌, ◌+◌, arith}
use Rattle.std.proofs.lemmas.List.{drop_all, drop_more}
use Rattle.std.proofs.lemmas.Slice.{first_rest}
use Rattle.rng_model.specs.names.Names.{class_list, some_of}
use Rattle.rng_model.specs.names.NameViews.{class_of, namespace_bytes}
use Rattle.rng_labels.specs.plain.LabelCodes.{any_but, class_code, more_code, ns_but, part_of}
use Rattle.rng_labels.proofs.LabelCodes.{any_except_code, ends, goes_on, ns_except_code, put_after, starts}
use Rattle.rng_labels.proofs.label_codes.+codes.Goals as goal

pub put_members-loop-member-init : goal.put_members-loop-member-init
put_members-loop-member-init t c =
    let rest = take (length c.args.members.now - 1) (drop 1 c.args.members.now) in
    let whole : c.first-item.result ∷ rest ≡ c.args.members.now =
    ap (λ first. first ∷ rest) c.first-item.is ∙ sym (first_rest c.args.members.now c.first-item.result (omega (arith, c.in-len1-up.len_at_least))) in
    starts (map part_of c.args.code.now.items) (map part_of c.put_member.new.code.items) (class_of c.first-item.result) (map class_of rest)
    c.in_ok-put_member.ensures ∙ ap (λ cs. map part_of c.args.code.now.items ++ class_code (some_of (map class_of cs)) []) whole

pub put_members-loop-member-preserved : goal.put_members-loop-member-preserved
put_members-loop-member-preserved t c =
    let rest = take (length c.args.members.now - 1) (drop 1 c.args.members.now) in
    let i = c.loop-member.member-index in
    let next : drop i rest ≡ c.member-item.result ∷ drop (i + 1) rest =
    drop_more rest i c.member-item.result c.loop-member-test.true ∙ ap (λ y. y ∷ drop (i + 1) rest) (sym c.member-item.is) in
    goes_on (map part_of c.loop-member.code.items) (map part_of c.put_member-in-loop-member.new.code.items) (map part_of c.put_either.new.code.items)
    (class_of c.member-item.result) (map class_of (drop (i + 1) rest)) c.in_ok-put_member-2.ensures c.in_ok-put_either.ensures
    ∙ ap (λ es. map part_of c.loop-member.code.items ++ more_code (class_list (map class_of es)) []) (sym next) ∙ c.loop-member.invariant

pub put_members-returns : goal.put_members-returns
put_members-returns t c =
    let rest = take (length c.args.members.now - 1) (drop 1 c.args.members.now) in
    let now = map part_of c.loop-member.code.items in
    sym (ends now) ∙ ap (λ es. now ++ more_code (class_list (map class_of es)) []) (sym (drop_all c.loop-member.member-index rest c.loop-member-test.false))
    ∙ c.loop-member.invariant

pub put_class-returns-in_ok-put-in-AnyExcept : goal.put_class-returns-in_ok-put-in-AnyExcept
put_class-returns-in_ok-put-in-AnyExcept t c =
    let old = map part_of c.args.code.now.items in
    put_after old (map part_of c.put_class.new.code.items) (map part_of c.put-in-AnyExcept.new.code.items) (class_of c.deref.result.now) any_but
    c.in_ok-put_class-in-AnyExcept.ensures c.in_ok-put-in-AnyExcept.ensures
    ∙ ap (λ ps. old ++ ps) (ap (λ x. class_code (class_of x) (any_but ∷ [])) c.deref.ensures ∙ any_except_code c.in-AnyExcept.except
    ∙ ap (λ x. class_code (class_of x) []) (sym c.in-AnyExcept.is))

pub put_class-returns-in_ok-put-in-NsExcept : goal.put_class-returns-in_ok-put-in-NsExcept
put_class-returns-in_ok-put-in-NsExcept t c =
    let old = map part_of c.args.code.now.items in
    let text = namespace_bytes c.in-NsExcept.ns in
    put_after old (map part_of c.put_class-in-NsExcept.new.code.items) (map part_of c.put-in-NsExcept.new.code.items) (class_of c.deref-in-NsExcept.result.now)
    (ns_but text) c.in_ok-put_class-in-NsExcept.ensures c.in_ok-put-in-NsExcept.ensures
    ∙ ap (λ ps. old ++ ps) (ap (λ x. class_code (class_of x) (ns_but text ∷ [])) c.deref-in-NsExcept.ensures
    ∙ ns_except_code c.in-NsExcept.ns c.in-NsExcept.except ∙ ap (λ x. class_code (class_of x) []) (sym c.in-NsExcept.is))
