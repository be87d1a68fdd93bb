-- Edges that are filtered.
use Rattle.std.proofs.Common.{◌≡◌, ℕ, Bool, true, false, ◌&&◌, ◌||◌, refl, if◌then◌else◌}

pub if_both : (a b : Bool) (x y z : ℕ) → a ≡ true → b ≡ true → x ≡ z → (if a && b then x else y) ≡ z
if_both a b x y z ea eb e = rw (ea, eb) e

pub none_either : (b : Bool) (x : ℕ) → x ≡ 0 → (if b then x else 0) ≡ 0
none_either true x e = e
none_either false x e = refl

pub none_coded : (transform p q : Bool) → p ≡ false → q ≡ false → (transform && (p || q)) ≡ false
none_coded true p q ep eq = rw (ep, eq) refl
none_coded false p q ep eq = refl
