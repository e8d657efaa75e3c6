-- Lists of which every place is said, and lists that a loop fills from the front.
use Rattle.std.specs.Prelude.{◌≡◌, refl, List, ℕ, zero, suc, ◌+◌, ◌<◌, length, get_or, set}
use Rattle.std.proofs.Common.{sym, ap, ◌∙◌, arith, not-suc-le-zero, le_of_suc-le-suc, below_none, below_more, ext_get_or, get_or-set_same, get_or-set_other}
use Rattle.paper.specs.Lists.{made}

pub length_made : {A : Type 0} (n : ℕ) (f : ℕ → A) → length (made n f) ≡ n
unfolding made
length_made zero f = refl
length_made (suc n) f = ap suc (length_made n (λ i. f (suc i)))

pub get_d_made : {A : Type 0} (n : ℕ) (f : ℕ → A) (i : ℕ) (d : A) → i < n → get_or (made n f) i d ≡ f i
unfolding made
get_d_made zero f i d h = absurd (not-suc-le-zero h)
get_d_made (suc n) f zero d h = refl
get_d_made (suc n) f (suc i) d h = get_d_made n (λ i. f (suc i)) i d (le_of_suc-le-suc h)

-- a list whose places are said so is the list made so
pub made_is : {A : Type 0} (d : A) (n : ℕ) (f : ℕ → A) (xs : List A) → length xs ≡ n → ((i : ℕ) → i < n → get_or xs i d ≡ f i) → xs ≡ made n f
made_is d n f xs e F = ext_get_or d xs (made n f) (e ∙ sym (length_made n f)) (λ i b. F i (omega arith) ∙ sym (get_d_made n f i d (omega arith)))

-- ---- the first n places of `out` are those of f
pub record Filled {A : Type 0} (d : A) (f : ℕ → A) (n : ℕ) (out : List A) : Type 0 where
  pub filled : (i : ℕ) → i < n → get_or out i d ≡ f i

pub filled_none : {A : Type 0} (d : A) (f : ℕ → A) (out : List A) → Filled d f 0 out
filled_none d f out = record { filled = below_none (λ i. get_or out i d ≡ f i) }

pub filled_more : {A : Type 0} (d : A) (f : ℕ → A) (n : ℕ) (out : List A) (w : A) → n < length out → Filled d f n out → w ≡ f n → Filled d f (n + 1) (set out n w)
filled_more d f n out w h F e = record {
  filled = below_more (λ i. get_or (set out n w) i d ≡ f i) n (λ i b. get_or-set_other out n i w d (omega arith) ∙ F.filled i b) (get_or-set_same out n w d h ∙ e);
}

pub filled_all : {A : Type 0} (d : A) (f : ℕ → A) (n m : ℕ) (out : List A) → length out ≡ n → m ≡ n → Filled d f m out → out ≡ made n f
filled_all d f n m out e q F = made_is d n f out e (λ i b. F.filled i (omega arith))
