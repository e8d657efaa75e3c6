-- In the room that decode has for it, nothing that is said is dropped: the lines are one text, all of it there.
use mathlib.Core.Path.{◌≡◌, sym, ap, ◌∙◌}
use mathlib.Core.Bool.{Bool}
use mathlib.Core.List.{List, [], ◌∷◌, ◌++◌}
use Prim.Native.Nat.{ℕ, ◌+◌, ◌-◌, ◌≤◌}
use native.Mathlib.Omega.{arith}
use lib.Dec.{leb, eqb}
use lib.ListN.{length}
use Rattle.paper.specs.Lists.{pick}
use Rattle.paper.specs.Sizes.{grey_limit}
use Rattle.paper.specs.Block.{Origin, unnamed}
use Rattle.pgm.specs.Ascii.{ascii}
use Rattle.words.specs.Line.{Line, on, ◌puts◌, figure}
use Rattle.words.proofs.Laws.{either, puts_all, one_text, lengths, one_text_length, puts_all_lem, puts_more, puts_either, lengths_more}
use Rattle.words.proofs.Decimal.{decimal_length}
use Rattle.worth.specs.Worth.{word, side_of, of_thumbnail, of_softer, one_shot, kind, worth}
use Rattle.title.specs.Title.{titled, is_long, colon, shot_by, awaits, plural, expected, counted}
use Rattle.verdict.specs.Verdict.{share_of, running, planes, report_of}
use Rattle.worth.proofs.Laws.{AtMost, word_length, thumbnail_length, softer_length, side_length, limit_length}

-- ---- the texts of each part
title_texts : List ℕ → ℕ → ℕ → Bool → ℕ → List (List ℕ)
title_texts label k r softer p =
    word p ∷ ascii " " ∷ label ∷ of_thumbnail r (ascii ", thumbnail") ∷ of_softer softer p ∷ ascii ", side " ∷ figure (side_of (k - r))
    ∷ of_thumbnail r (ascii " of ") ∷ of_thumbnail r (figure (side_of k)) ∷ []

origin_texts : Bool → Origin → List (List ℕ)
origin_texts long o =
    pick (unnamed o.edition) (ascii ": " ∷ [])
    (ascii ", arm " ∷ figure o.arm ∷ ascii ", mount " ∷ figure o.mount ∷ colon long ∷ [])

count_texts : ℕ → ℕ → ℕ → ℕ → List (List ℕ)
count_texts e blocks bits p = figure blocks ∷ plural blocks ∷ expected (awaits e blocks bits p) ∷ []

worth_texts : ℕ → ℕ → ℕ → ℕ → List (List ℕ)
worth_texts L r p blocks =
    pick (eqb p 0) (ascii "  every grey is right: the very " ∷ kind r ∷ one_shot blocks ∷ [])
    (pick (eqb (grey_limit (L - r) p) 255) (ascii "  any grey may be wrong: too little is left to promise more\n" ∷ [])
    (ascii "  no grey is off by more than " ∷ figure (grey_limit (L - r) p) ∷ ascii " of 255" ∷ one_shot blocks ∷ []))

running_texts : ℕ → ℕ → ℕ → List (List ℕ)
running_texts k p place = pick (eqb p 0) [] (ascii " and " ∷ figure (share_of k place) ∷ ascii "% of the next" ∷ [])

depth_texts : ℕ → ℕ → List (List ℕ)
depth_texts L bits = ascii ", levels: " ∷ figure L ∷ ascii ", bits: " ∷ figure bits ∷ ascii "\n" ∷ []

plane_texts : ℕ → ℕ → ℕ → ℕ → ℕ → ℕ → List (List ℕ)
plane_texts k L n p place bits = ascii "  planes finished: " ∷ figure (n - p) ∷ ascii " of " ∷ figure n ∷ (running_texts k p place ++ depth_texts L bits)

-- behind the title and the origin
rest_texts : ℕ → ℕ → ℕ → ℕ → ℕ → ℕ → ℕ → ℕ → ℕ → List ℕ → List (List ℕ)
rest_texts k L r e n blocks bits p place ended = count_texts e blocks bits p ++ (worth_texts L r p blocks ++ (plane_texts k L n p place bits ++ (ended ∷ [])))

pub report_texts : List ℕ → ℕ → ℕ → ℕ → Bool → Origin → ℕ → ℕ → ℕ → ℕ → ℕ → List ℕ → List (List ℕ)
report_texts label k L r softer o n blocks bits p place ended =
    title_texts label k r softer p ++ (origin_texts (is_long r softer p) o ++ rest_texts k L r o.edition n blocks bits p place ended)

-- ---- each part is its texts
worth_texts_lem : (L r p blocks : ℕ) (line : Line) → worth L r p blocks line ≡ puts_all line (worth_texts L r p blocks)
unfolding worth worth_texts puts_all
worth_texts_lem L r p blocks line =
    ap (pick (eqb p 0) _) (puts_either (eqb (grey_limit (L - r) p) 255) _ _ line) ∙ puts_either (eqb p 0) _ _ line

origin_texts_lem : (long : Bool) (o : Origin) (line : Line) → shot_by long o line ≡ puts_all line (origin_texts long o)
unfolding shot_by origin_texts puts_all
origin_texts_lem long o line = puts_either (unnamed o.edition) _ _ line

running_texts_lem : (k p place : ℕ) (line : Line) → running k p place line ≡ puts_all line (running_texts k p place)
unfolding running running_texts puts_all
running_texts_lem k p place line = puts_either (eqb p 0) [] _ line

planes_texts : (k L n p place bits : ℕ) (line : Line) → planes k L n p place bits line ≡ puts_all line (plane_texts k L n p place bits)
unfolding planes plane_texts depth_texts puts_all
planes_texts k L n p place bits line =
    let finished = line puts ascii "  planes finished: " puts figure (n - p) puts ascii " of " puts figure n in
    ap (λ (line : Line). line puts ascii ", levels: " puts figure L puts ascii ", bits: " puts figure bits puts ascii "\n") (running_texts_lem k p place finished)
    ∙ sym (puts_more (running_texts k p place) (depth_texts L bits) finished)

rest_texts_lem : (k L r e n blocks bits p place : ℕ) (ended : List ℕ) (line : Line)
    → planes k L n p place bits (worth L r p blocks (counted e blocks bits p line)) puts ended ≡ puts_all line (rest_texts k L r e n blocks bits p place ended)
unfolding counted rest_texts count_texts puts_all
rest_texts_lem k L r e n blocks bits p place ended line =
    let said = counted e blocks bits p line in
    let planes_too = plane_texts k L n p place bits in
    ap (λ (line : Line). line puts ended) (planes_texts k L n p place bits (worth L r p blocks said))
    ∙ (sym (puts_more planes_too (ended ∷ []) (worth L r p blocks said))
    ∙ (ap (λ (line : Line). puts_all line (planes_too ++ (ended ∷ []))) (worth_texts_lem L r p blocks said)
    ∙ sym (puts_more (worth_texts L r p blocks) (planes_too ++ (ended ∷ [])) said)))

report_texts_lem : (label : List ℕ) (k L r : ℕ) (softer : Bool) (o : Origin) (n blocks bits p place : ℕ) (ended : List ℕ) (line : Line) → report_of label k L r softer o n blocks bits p place ended line ≡ puts_all line (report_texts label k L r softer o n blocks bits p place ended)
unfolding report_of titled report_texts title_texts puts_all
report_texts_lem label k L r softer o n blocks bits p place ended line =
    let title = titled label k r softer p line in
    let long = is_long r softer p in
    let rest = rest_texts k L r o.edition n blocks bits p place ended in
    rest_texts_lem k L r o.edition n blocks bits p place ended (shot_by long o title)
    ∙ (ap (λ (line : Line). puts_all line rest) (origin_texts_lem long o title)
    ∙ sym (puts_more (origin_texts long o) rest title))

-- ---- and none is long
plural_length : (blocks : ℕ) → length (plural blocks) ≤ 9
unfolding plural
plural_length blocks = either (AtMost 9) (eqb blocks 1) _ _ (omega arith) (omega arith)

expected_length : (more : Bool) → length (expected more) ≤ 17
unfolding expected
expected_length more = either (AtMost 17) more _ _ (omega arith) (omega arith)

one_shot_length : (blocks : ℕ) → length (one_shot blocks) ≤ 32
unfolding one_shot
one_shot_length blocks = either (AtMost 32) (leb blocks 1) _ _ (omega arith) (omega arith)

kind_length : (r : ℕ) → length (kind r) ≤ 9
unfolding kind
kind_length r = either (AtMost 9) (eqb r 0) _ _ (omega arith) (omega arith)

abbrev Few : List (List ℕ) → Type 0
Few texts = lengths texts ≤ 73

worth_length : (L r p blocks : ℕ) → lengths (worth_texts L r p blocks) ≤ 73
unfolding worth_texts lengths
worth_length L r p blocks =
    either Few (eqb p 0) _ _ (omega (arith, kind_length r, one_shot_length blocks))
    (either Few (eqb (grey_limit (L - r) p) 255) _ _ (omega arith) (omega (arith, one_shot_length blocks, limit_length (L - r) p)))

colon_length : (long : Bool) → length (colon long) ≤ 4
unfolding colon
colon_length long = either (AtMost 4) long _ _ (omega arith) (omega arith)

origin_length : (long : Bool) (o : Origin) → lengths (origin_texts long o) ≤ 58
unfolding origin_texts lengths
origin_length long o =
    either (λ (texts : List (List ℕ)). lengths texts ≤ 58) (unnamed o.edition) _ _ (omega arith)
    (omega (arith, decimal_length 20 o.arm, decimal_length 20 o.mount, colon_length long))

title_length : (label : List ℕ) (k r : ℕ) (softer : Bool) (p : ℕ) → lengths (title_texts label k r softer p) ≤ length label + 42
unfolding title_texts lengths
title_length label k r softer p =
    omega (arith, word_length p, thumbnail_length r (ascii ", thumbnail"), softer_length softer p, side_length (k - r), thumbnail_length r (ascii " of "), thumbnail_length r (figure (side_of k)), side_length k)

running_length : (k p place : ℕ) → lengths (running_texts k p place) ≤ 38
unfolding running_texts lengths
running_length k p place = either (λ (texts : List (List ℕ)). lengths texts ≤ 38) (eqb p 0) _ _ (omega arith) (omega (arith, decimal_length 20 (share_of k place)))

planes_length : (k L n p place bits : ℕ) → lengths (plane_texts k L n p place bits) ≤ 160
unfolding plane_texts depth_texts lengths
planes_length k L n p place bits =
    omega (arith, decimal_length 20 (n - p), decimal_length 20 n, lengths_more (running_texts k p place) (depth_texts L bits), running_length k p place, decimal_length 20 L, decimal_length 20 bits)

rest_length : (k L r e n blocks bits p place : ℕ) (ended : List ℕ) → lengths (rest_texts k L r e n blocks bits p place ended) ≤ length ended + 279
unfolding rest_texts count_texts lengths
rest_length k L r e n blocks bits p place ended =
    let planes_too = plane_texts k L n p place bits in
    omega (arith, lengths_more (worth_texts L r p blocks) (planes_too ++ (ended ∷ [])), lengths_more planes_too (ended ∷ []), decimal_length 20 blocks, plural_length blocks, expected_length (awaits e blocks bits p), worth_length L r p blocks, planes_length k L n p place bits)

texts_length : (label : List ℕ) (k L r : ℕ) (softer : Bool) (o : Origin) (n blocks bits p place : ℕ) (ended : List ℕ) → lengths (report_texts label k L r softer o n blocks bits p place ended) ≤ length label + length ended + 379
unfolding report_texts
texts_length label k L r softer o n blocks bits p place ended =
    let long = is_long r softer p in
    let rest = rest_texts k L r o.edition n blocks bits p place ended in
    omega (arith, lengths_more (title_texts label k r softer p) (origin_texts long o ++ rest), lengths_more (origin_texts long o) rest, title_length label k r softer p, origin_length long o, rest_length k L r o.edition n blocks bits p place ended)

-- in room of 864 bytes
pub report_there : (bytes label : List ℕ) (k L r : ℕ) (softer : Bool) (o : Origin) (n blocks bits p place : ℕ) (ended : List ℕ) → 864 ≤ length bytes → length label ≤ 8 → length ended ≤ 464
    → report_of label k L r softer o n blocks bits p place ended (on bytes 0) ≡ on bytes 0 puts one_text (report_texts label k L r softer o n blocks bits p place ended)
report_there bytes label k L r softer o n blocks bits p place ended room short few =
    let texts = report_texts label k L r softer o n blocks bits p place ended in
    let long : 0 + length (one_text texts) ≤ length bytes = omega (arith, one_text_length texts, texts_length label k L r softer o n blocks bits p place ended) in
    report_texts_lem label k L r softer o n blocks bits p place ended (on bytes 0) ∙ puts_all_lem texts bytes 0 long
