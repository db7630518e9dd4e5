-- Worked cases of shapes.
use Rattle.std.proofs.Common.{codes, ◌≡◌, refl, true, false}
use Rattle.xsd_uris.specs.plain.UriShapes.{has_uri_shape}

a : has_uri_shape (codes "http://[3ffe:2a00:100:7031::1]:80/a?b#c") ≡ true
a = refl

b : has_uri_shape (codes "http://[::1.2.3.4]") ≡ true
b = refl

c : has_uri_shape (codes "//u@[1::2:3]:/") ≡ true
c = refl

d : has_uri_shape (codes "mailto:") ≡ false
d = refl

e : has_uri_shape (codes "a%zz") ≡ false
e = refl

f : has_uri_shape (codes "//[1.2.3.4]") ≡ false
f = refl

g : has_uri_shape (codes "http://[a:b::c::d]") ≡ false
g = refl
