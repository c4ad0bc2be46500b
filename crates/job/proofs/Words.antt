-- Words read from bytes into cells, one after the other.
-- Assumes nothing.
use Prim.Native.Nat.{ℕ, zero, suc, ◌+◌, ◌-◌, ◌*◌, ◌≤◌, ◌<◌}
use mathlib.Core.Path.{◌≡◌, refl, ap, ◌∙◌}
use mathlib.Core.List.{List, [], append-nil, append_assoc}
use native.Mathlib.Omega.{arith}
use lib.ListN.{length, set, take, drop, length-drop, drop_of_length-le}
use lib.Seq.{sets, sets-eq, take_all, drop-drop, length-take-le}
use Rattle.std.proofs.lemmas.List.{length-take}
use borrow.Rule.Slice.PartMut.{put_mid}
use Rattle.lent.specs.Little.{number_at}
use Rattle.job.specs.Job.{words_of}

pub number_drop : (a b w : ℕ) (l : List ℕ) → number_at a w (drop b l) ≡ number_at (b + a) w l
unfolding number_at
number_drop a b w l = rw drop-drop

pub length-words : (n : ℕ) (l : List ℕ) → length (words_of n l) ≡ n
unfolding words_of
length-words zero l = refl
length-words (suc n) l = ap suc (length-words n (drop 4 l))

-- the four bytes of a word, lent alone
pub word_lent : (words : List ℕ) (at : ℕ) → number_at 0 4 (take (at + 4 - at) (drop at words)) ≡ number_at at 4 words
unfolding number_at
word_lent words at = let n : at + 4 - at ≡ 4 = omega arith in rw (n, take_all 4 (take 4 (drop at words)) (omega (arith, length-take 4 (drop at words))))

-- one word stored
pub words_turn : (part words : List ℕ) (count i v : ℕ) → i < count → v ≡ number_at (4 * i) 4 words
    → sets (set part i v) (i + 1) (words_of (count - (i + 1)) (drop (4 * (i + 1)) words)) ≡ sets part i (words_of (count - i) (drop (4 * i) words))
unfolding words_of
words_turn part words count i v h e =
    let w : count - i ≡ suc (count - (i + 1)) = omega arith in
    let n : i + 1 ≡ suc i = omega arith in
    let d : 4 * i + 4 ≡ 4 * (i + 1) = omega arith in
    let f : 4 * i + 0 ≡ 4 * i = omega arith in
    rw (w, number_drop 0 (4 * i) 4 words, f, ← e, drop-drop, d, n)

pub words_over : (part words : List ℕ) (count i : ℕ) → count ≤ i → part ≡ sets part i (words_of (count - i) (drop (4 * i) words))
unfolding words_of
words_over part words count i h = let w : count - i ≡ 0 = omega arith in rw w

-- as many words as there are places leave nothing of what was there
pub words_over_all : (part words : List ℕ) → sets part 0 (words_of (length part) words) ≡ words_of (length part) words
words_over_all part words =
    let n = length-words (length part) words in
    let d : drop (0 + length (words_of (length part) words)) part ≡ [] = drop_of_length-le part {i = 0 + length (words_of (length part) words)} (omega arith) in
    sets-eq (words_of (length part) words) part 0 (omega arith) ∙ rw d (append-nil (words_of (length part) words))

-- words read into a part that is lent are stored into the whole
pub lent_words : (cells payload : List ℕ) (base count : ℕ) (part : List ℕ) → base + count ≤ length cells
    → part ≡ words_of (length (take (base + count - base) (drop base cells))) (take (length payload - 2) (drop 2 payload))
    → put_mid base (base + count - base) cells part ≡ sets cells base (words_of count (drop 2 payload))
lent_words cells payload base count part h e =
    let c : base + count - base ≡ count = omega arith in
    let l : length (take count (drop base cells)) ≡ count = length-take-le count (drop base cells) (simp length-drop (omega arith)) in
    let t : take (length payload - 2) (drop 2 payload) ≡ drop 2 payload = take_all (length payload - 2) (drop 2 payload) (simp length-drop (omega arith)) in
    let n : length (words_of count (drop 2 payload)) ≡ count = length-words count (drop 2 payload) in
    rw (e, c, l, t, sets-eq (words_of count (drop 2 payload)) cells base (omega arith), n, drop-drop) (simp append_assoc)
