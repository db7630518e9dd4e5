use Rattle.std.proofs.Common.{◌≡◌, ◌↔◌, ◌+◌, get_or, replicate, eqb, subst, sym}
use Rattle.std.specs.Int.{bit_at}
use Rattle.std.specs.Simd.Lanes.{chunk, mask_l, zip2}
use Rattle.std.proofs.lemmas.Simd.{length-chunk, get_or-chunk}
use Rattle.pyx.proofs.Lines.ByteMasks.{mask_is, mask_tells}
use Rattle.pyx.proofs.marks.mask_of.Goals as goal

pub returns : goal.returns
returns c k l =
    let b = c.args.byte in
    let bytes = c.args.bytes.now in
    let from = c.args.from in
    let v = chunk from 16 bytes in
    let long = length-chunk from 16 bytes c.requires in
    subst (λ m. (bit_at m k ≡ 1) ↔ (get_or bytes (from + k) 0 ≡ b)) (sym (mask_is v b long))
    (subst (λ x. (bit_at (mask_l (zip2 eqb v (replicate 16 b))) k ≡ 1) ↔ (x ≡ b)) (get_or-chunk from 16 bytes k 0 l) (mask_tells v b k long l))
