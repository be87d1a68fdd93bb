-- The bytes of bits that end in a 1 and zeros.
use Rattle.std.proofs.Common.{◌≡◌, ℕ, zero, suc, ◌+◌, ◌*◌, ◌<◌, Bool, true, false, List, [], ◌∷◌, ◌++◌}
use Rattle.std.proofs.Common.{length, replicate, refl, sym, ap, subst, ◌∙◌, arith}
use Rattle.spec_bits.specs.Bits.{bits, number_of}
use Rattle.spec_bits.proofs.Bytes.{bits-cons, bits-nil}
use Rattle.spec_bits.proofs.Digits.{u_bits-number_of}
use Rattle.spec_made.specs.Written.{bytes_of}

-- bytes of which the last isn't 00
pub record EndsInSome (bytes : List ℕ) : Type 0 where
  pub front : List ℕ
  pub last : ℕ
  pub some : 0 < last
  pub is : bytes ≡ front ++ last ∷ []

-- the bits of bytes that are made of whole bytes of bits
pub bits-bytes_of : (n : ℕ) (bs : List Bool) → length bs ≡ 8 * n → bits (bytes_of bs) ≡ bs
unfolding bytes_of
bits-bytes_of zero [] e = bits-nil
bits-bytes_of (suc n) (a ∷ b ∷ c ∷ d ∷ e ∷ f ∷ g ∷ h ∷ bs) k =
    let byte : List Bool = a ∷ b ∷ c ∷ d ∷ e ∷ f ∷ g ∷ h ∷ [] in
    bits-cons (number_of byte) (bytes_of bs)
    ∙ ap (λ l. l ++ bits (bytes_of bs)) (u_bits-number_of byte)
    ∙ ap (λ l. byte ++ l) (bits-bytes_of n bs (omega (arith, k)))
bits-bytes_of n bs k = absurd (omega (arith, k))

-- how many bytes they are
pub length-bytes_of : (n : ℕ) (bs : List Bool) → length bs ≡ 8 * n → length (bytes_of bs) ≡ n
unfolding bytes_of
length-bytes_of zero [] e = refl
length-bytes_of (suc n) (a ∷ b ∷ c ∷ d ∷ e ∷ f ∷ g ∷ h ∷ bs) k = ap suc (length-bytes_of n bs (omega (arith, k)))
length-bytes_of n bs k = absurd (omega (arith, k))

-- one byte before them
one_more : (b : ℕ) (bytes : List ℕ) → EndsInSome bytes → EndsInSome (b ∷ bytes)
one_more b bytes e = record { front = b ∷ e.front; last = e.last; some = e.some; is = ap (λ l. b ∷ l) e.is }

-- bytes before them
pub more_before : (front bytes : List ℕ) → EndsInSome bytes → EndsInSome (front ++ bytes)
more_before [] bytes e = e
more_before (b ∷ front) bytes e = one_more b (front ++ bytes) (more_before front bytes e)

-- a single byte
pub one_byte : (b : ℕ) → 0 < b → EndsInSome (b ∷ [])
one_byte b some = record { front = []; last = b; some = some; is = refl }

-- bits before a 1 and zeros up to the end of a byte
last_byte : (front : List Bool) (k : ℕ) → length front + suc k ≡ 8
    → EndsInSome (bytes_of (front ++ true ∷ replicate k false))
unfolding bytes_of number_of
last_byte [] k e =
    let is : k ≡ 7 = omega (arith, e) in
    subst (λ n. EndsInSome (bytes_of (true ∷ replicate n false))) (sym is) (one_byte 128 (omega arith))
last_byte (a ∷ []) k e =
    let is : k ≡ 6 = omega (arith, e) in
    subst (λ n. EndsInSome (bytes_of (a ∷ true ∷ replicate n false))) (sym is) (one_byte _ (omega arith))
last_byte (a ∷ b ∷ []) k e =
    let is : k ≡ 5 = omega (arith, e) in
    subst (λ n. EndsInSome (bytes_of (a ∷ b ∷ true ∷ replicate n false))) (sym is) (one_byte _ (omega arith))
last_byte (a ∷ b ∷ c ∷ []) k e =
    let is : k ≡ 4 = omega (arith, e) in
    subst (λ n. EndsInSome (bytes_of (a ∷ b ∷ c ∷ true ∷ replicate n false))) (sym is) (one_byte _ (omega arith))
last_byte (a ∷ b ∷ c ∷ d ∷ []) k e =
    let is : k ≡ 3 = omega (arith, e) in
    subst (λ n. EndsInSome (bytes_of (a ∷ b ∷ c ∷ d ∷ true ∷ replicate n false))) (sym is)
    (one_byte _ (omega arith))
last_byte (a ∷ b ∷ c ∷ d ∷ f ∷ []) k e =
    let is : k ≡ 2 = omega (arith, e) in
    subst (λ n. EndsInSome (bytes_of (a ∷ b ∷ c ∷ d ∷ f ∷ true ∷ replicate n false))) (sym is)
    (one_byte _ (omega arith))
last_byte (a ∷ b ∷ c ∷ d ∷ f ∷ g ∷ []) k e =
    let is : k ≡ 1 = omega (arith, e) in
    subst (λ n. EndsInSome (bytes_of (a ∷ b ∷ c ∷ d ∷ f ∷ g ∷ true ∷ replicate n false))) (sym is)
    (one_byte _ (omega arith))
last_byte (a ∷ b ∷ c ∷ d ∷ f ∷ g ∷ h ∷ []) k e =
    let is : k ≡ 0 = omega (arith, e) in
    subst (λ n. EndsInSome (bytes_of (a ∷ b ∷ c ∷ d ∷ f ∷ g ∷ h ∷ true ∷ replicate n false))) (sym is)
    (one_byte _ (omega arith))
last_byte (a ∷ b ∷ c ∷ d ∷ f ∷ g ∷ h ∷ i ∷ front) k e = absurd (omega (arith, e))

-- bits that end in a 1 and fewer than eight zeros
pub bytes_end : (n : ℕ) (front : List Bool) (k : ℕ) → k < 8 → length front + suc k ≡ 8 * suc n
    → EndsInSome (bytes_of (front ++ true ∷ replicate k false))
unfolding bytes_of
bytes_end zero front k few e = last_byte front k (omega (arith, e))
bytes_end (suc n) (a ∷ b ∷ c ∷ d ∷ f ∷ g ∷ h ∷ i ∷ front) k few e =
    one_more _ _ (bytes_end n front k few (omega (arith, e)))
bytes_end (suc n) front k few e = absurd (omega (arith, e, few))
