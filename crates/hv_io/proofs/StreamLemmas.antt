-- Lemmas on what several reads or writes do, one after the other.
use Rattle.std.proofs.Common.{◌≡◌, ℕ, ◌+◌, ◌-◌, ◌≤◌, List, [], ◌++◌, length, take, drop, Option, Some, None, sym, ap}
use Rattle.std.proofs.Common.{◌∙◌, append_assoc, append-nil, length-append, length-drop, take_all, arith}
use Rattle.std.proofs.Math.Seq.{take-add, take-append-add}
use Rattle.std.proofs.lemmas.List.{take-append-le}
use Rattle.hv_io.specs.Streams.{Takes, Gains, GainsPrefix}

-- nothing is gained by no write
pub Gains-nil : (a : Option (List ℕ)) → Gains a a []
Gains-nil None = tt
Gains-nil (Some x) = sym (append-nil x)

-- two writes gain the one's bytes and then the other's
pub Gains-append : (a b c : Option (List ℕ)) (first second : List ℕ)
    → Gains a b first → Gains b c second → Gains a c (first ++ second)
Gains-append None b c first second p q = tt
Gains-append (Some x) None c first second p q = absurd p
Gains-append (Some x) (Some y) None first second p q = absurd q
Gains-append (Some x) (Some y) (Some z) first second p q = q ∙ ap (λ l. l ++ second) p ∙ append_assoc x first second

-- a write of a front of what stands behind the first i bytes of a piece gains more of the piece
pub Gains-more : (a b c : Option (List ℕ)) (i n : ℕ) (piece : List ℕ)
    → Gains a b (take i piece) → Gains b c (take n (take (length piece - i) (drop i piece)))
    → Gains a c (take (i + n) piece)
Gains-more a b c i n piece p q =
    let rest : take (length piece - i) (drop i piece) ≡ drop i piece =
    take_all _ _ (omega (arith, length-drop i piece)) in
    rw (take-add i n piece) (Gains-append a b c _ _ p (rw rest at q))

-- a front of a piece is a front of what the piece begins
pub GainsPrefix-front : (a b : Option (List ℕ)) (first second : List ℕ)
    → GainsPrefix a b first → GainsPrefix a b (first ++ second)
GainsPrefix-front a b first second p =
    let within : p.0 ≤ length first = p.1.0 in
    (p.0, (omega (arith, within, length-append first second), rw (take-append-le p.0 first second within) p.1.1))

-- a whole piece and a front of the next are a front of both
pub GainsPrefix-append : (a b c : Option (List ℕ)) (first second : List ℕ)
    → Gains a b first → GainsPrefix b c second → GainsPrefix a c (first ++ second)
GainsPrefix-append a b c first second p q =
    let within : q.0 ≤ length second = q.1.0 in (
      length first + q.0,
      (
        omega (arith, within, length-append first second),
        rw (take-append-add first second q.0) (Gains-append a b c _ _ p q.1.1),
      ),
    )

-- two reads take the one's bytes and then the other's
pub Takes-append : (a b c : Option (List ℕ)) (first second : List ℕ)
    → Takes a b first → Takes b c second → Takes a c (first ++ second)
Takes-append None b c first second p q = tt
Takes-append (Some x) None c first second p q = absurd p
Takes-append (Some x) (Some y) None first second p q = absurd q
Takes-append (Some x) (Some y) (Some z) first second p q =
    p ∙ ap (λ l. first ++ l) q ∙ sym (append_assoc first second z)
