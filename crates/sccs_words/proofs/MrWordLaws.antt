-- The words between gaps are those that splitting finds.
use Rattle.std.proofs.Common.{◌≡◌, ℕ, Bool, true, false, List, [], ◌∷◌, ◌++◌, refl, sym, ap, ◌∙◌, subst, cond}
use Rattle.std.specs.List.{AllByRecursion}
use Rattle.std.proofs.lemmas.List.{append_assoc, append-nil}
use Rattle.sccs_sid.specs.Reading.{is_empty}
use Rattle.sccs_words.specs.MrWords.{is_gap, ended_word, split_from, mr_words}
use Rattle.sccs_words.specs.BetweenGaps.{AreGaps, IsWordEnd, AreWordsOf}

no_words : (word : List ℕ) (words : List (List ℕ)) → ended_word words word ≡ words ++ ended_word [] word
no_words [] words = sym (append-nil words)
no_words (b ∷ word) words = refl

either : (test : Bool) (words a b c d : List (List ℕ)) → a ≡ words ++ c → b ≡ words ++ d → cond test a b ≡ words
    ++ cond test c d
either true words a b c d first second = first
either false words a b c d first second = second

join_found : (words : List (List ℕ)) (word : List ℕ) (a b more : List (List ℕ)) → a ≡ ended_word words word ++ more
    → b ≡ ended_word [] word ++ more → a ≡ words ++ b
join_found words word a b more first second =
    first ∙ (ap (λ (ws : List (List ℕ)). ws ++ more) (no_words word words)
    ∙ (append_assoc words (ended_word [] word) more ∙ ap (λ (ws : List (List ℕ)). words ++ ws) (sym second)))

-- the words that were found stay before the others
found_before : (words : List (List ℕ)) (word bytes : List ℕ) → split_from words word bytes ≡ words
    ++ split_from [] word bytes
unfolding split_from
found_before words word [] = no_words word words
found_before words word (b ∷ bytes) =
    either (is_gap b) words _ _ _ _ (join_found words word _ _ (split_from [] [] bytes)
    (found_before (ended_word words word) [] bytes) (found_before (ended_word [] word) [] bytes))
    (found_before words (word ++ b ∷ []) bytes)

-- ---- what splitting finds is between gaps

-- a gap more before them
gap_before : (b : ℕ) (bytes : List ℕ) (words : List (List ℕ)) → is_gap b ≡ true → AreWordsOf bytes words
    → AreWordsOf (b ∷ bytes) words
gap_before b bytes [] is all = (is, all)
gap_before b bytes (word ∷ words) is (gaps, after, same, are, one, end, more) =
    (b ∷ gaps, after, ap (λ (bs : List ℕ). b ∷ bs) same, (is, are), one, end, more)

abbrev Whole : List ℕ → Type 0
Whole word = AllByRecursion (λ c. is_gap c ≡ false) word

push : (word : List ℕ) (b : ℕ) → Whole word → is_gap b ≡ false → Whole (word ++ b ∷ [])
push [] b whole is = (is, tt)
push (c ∷ word) b whole is = (whole.0, push word b whole.1 is)

-- a word that has begun, where a gap or the end follows
word_ends : (word after : List ℕ) (words : List (List ℕ)) → Whole word → IsWordEnd after → AreWordsOf after words
    → AreWordsOf (word ++ after) (ended_word [] word ++ words)
word_ends [] after words whole end all = all
word_ends (c ∷ word) after words whole end all = (
  [],
  after,
  refl,
  tt,
  record { filled = refl; whole = whole },
  end,
  all,
)

-- the next byte is a gap, or goes on with the word
next_byte : (test : Bool) (b : ℕ) (word bytes : List ℕ) (at_gap goes_on : List (List ℕ)) → is_gap b ≡ test
    → (is_gap b ≡ true → AreWordsOf (word ++ (b ∷ bytes)) at_gap)
    → (is_gap b ≡ false → AreWordsOf (word ++ (b ∷ bytes)) goes_on)
    → AreWordsOf (word ++ (b ∷ bytes)) (cond test at_gap goes_on)
next_byte true b word bytes at_gap goes_on is first second = first is
next_byte false b word bytes at_gap goes_on is first second = second is

splits : (bytes word : List ℕ) → Whole word → AreWordsOf (word ++ bytes) (split_from [] word bytes)
unfolding split_from
splits [] word whole = subst (λ (words : List (List ℕ)). AreWordsOf (word ++ []) words)
    (append-nil (ended_word [] word)) (word_ends word [] [] whole tt tt)
splits (b ∷ bytes) word whole =
    next_byte (is_gap b) b word bytes _ _ refl
    (λ is. subst (λ (words : List (List ℕ)). AreWordsOf (word ++ (b ∷ bytes)) words)
    (sym (found_before (ended_word [] word) [] bytes))
    (word_ends word (b ∷ bytes) (split_from [] [] bytes) whole is (gap_before b bytes (split_from [] [] bytes) is
    (splits bytes [] tt))))
    (λ is. subst (λ (bs : List ℕ). AreWordsOf bs (split_from [] (word ++ b ∷ []) bytes))
    (append_assoc word (b ∷ []) bytes) (splits bytes (word ++ b ∷ []) (push word b whole is)))

pub words_found : (bytes : List ℕ) → AreWordsOf bytes (mr_words bytes)
words_found bytes = splits bytes [] tt

-- ---- what is between gaps is what splitting finds

gap_step : (b : ℕ) (words : List (List ℕ)) (word bytes : List ℕ) → is_gap b ≡ true → split_from words word (b ∷ bytes)
    ≡ split_from (ended_word words word) [] bytes
unfolding split_from
gap_step b words word bytes is = ap (λ (test : Bool). cond test (split_from (ended_word words word) [] bytes)
    (split_from words (word ++ b ∷ []) bytes)) is

byte_step : (b : ℕ) (words : List (List ℕ)) (word bytes : List ℕ) → is_gap b ≡ false → split_from words word (b ∷ bytes)
    ≡ split_from words (word ++ b ∷ []) bytes
unfolding split_from
byte_step b words word bytes is = ap (λ (test : Bool). cond test (split_from (ended_word words word) [] bytes)
    (split_from words (word ++ b ∷ []) bytes)) is

gaps_step : (gaps bytes : List ℕ) → AreGaps gaps → split_from [] [] (gaps ++ bytes) ≡ split_from [] [] bytes
gaps_step [] bytes are = refl
gaps_step (b ∷ gaps) bytes are = gap_step b [] [] (gaps ++ bytes) are.0 ∙ gaps_step gaps bytes are.1

word_step : (word begun after : List ℕ) → Whole word → split_from [] begun (word ++ after) ≡ split_from []
    (begun ++ word) after
word_step [] begun after whole = ap (λ (bs : List ℕ). split_from [] bs after) (sym (append-nil begun))
word_step (b ∷ word) begun after whole =
    byte_step b [] begun (word ++ after) whole.0
    ∙ (word_step word (begun ++ b ∷ []) after whole.1 ∙ ap (λ (bs : List ℕ). split_from [] bs after)
    (append_assoc begun (b ∷ []) word))

end_step : (word after : List ℕ) → IsWordEnd after → split_from [] word after ≡ ended_word [] word
    ++ split_from [] [] after
unfolding split_from
end_step word [] end = sym (append-nil (ended_word [] word))
end_step word (b ∷ after) end =
    gap_step b [] word after end
    ∙ (found_before (ended_word [] word) [] after ∙ ap (λ (ws : List (List ℕ)). ended_word [] word ++ ws)
    (sym (gap_step b [] [] after end)))

filled_word : (word : List ℕ) → is_empty word ≡ false → ended_word [] word ≡ word ∷ []
filled_word [] is = cc
filled_word (b ∷ word) is = refl

pub words_are : (words : List (List ℕ)) (bytes : List ℕ) → AreWordsOf bytes words → words ≡ mr_words bytes
unfolding split_from
words_are [] bytes are = sym (ap (split_from [] []) (sym (append-nil bytes)) ∙ gaps_step bytes [] are)
words_are (word ∷ words) bytes (gaps, after, same, are, one, end, more) =
    sym (ap (split_from [] []) same ∙ (gaps_step gaps (word ++ after) are ∙ (word_step word [] after one.whole
    ∙ (end_step word after end
    ∙ (ap (λ (ws : List (List ℕ)). ws ++ split_from [] [] after) (filled_word word one.filled)
    ∙ ap (λ (ws : List (List ℕ)). word ∷ ws) (sym (words_are words after more)))))))
