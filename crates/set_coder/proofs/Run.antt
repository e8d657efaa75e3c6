-- The coder runs the walk: one part's bits are put behind the other's.
use mathlib.Core.Path.{refl, sym, ◌∙◌, subst}
use mathlib.Core.Bool.{Bool}
use mathlib.Core.List.{List}
use Rattle.paper.specs.Walk.{Coder}
use Rattle.bits.specs.Bits.{wrote}
use Rattle.bits.specs.declared.BitSink.{BitSink}
use Rattle.bits.proofs.Written.{wrote_append}
use Rattle.shapes.proofs.Walks.{Running}
use Rattle.set_coder.specs.Coded.{stands, Coded}

pub done : {A : Type 0} (s : BitSink) (a : A) → Coded (Coder.done a) s a s
unfolding wrote
done s a = record { held = refl; put = refl; limit = refl; same = refl }

pub then_coded : {A B : Type 0} {m : A × List Bool} {s t u : BitSink} {a : A} {b : B} (f : A → B × List Bool) → Coded m s a t → Coded (f a) t b u → Coded (Coder.then m f) s b u
then_coded {m = m} {s} {t} {u} {b = b} f X Y =
    let Z : Coded (f m.0) t b u = subst (λ a. Coded (f a) t b u) (sym X.held) Y in
    record {
      held = Z.held;
      put = Z.put ∙ (λ i. wrote (X.limit i) (f m.0).1 (X.put i)) ∙ sym (wrote_append s.limit m.1 (f m.0).1 (stands s));
      limit = Z.limit ∙ X.limit;
      same = Z.same ∙ X.same;
    }

abbrev pub coder : Running Coder BitSink
coder = record { Ran = λ c s a t. Coded c s a t; still = λ {t = t} X b. done t b; on = then_coded }
