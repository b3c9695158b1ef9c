-- The texts of refused words.
use Rattle.std.specs.Prelude.{ℕ, ◌-◌, List, ◌++◌, codes}
use Rattle.hot_words.specs.declared.faults.WordFault.{WordFault}
use Rattle.hot_words.specs.declared.faults.WordCode.{WordCode}
use Rattle.hot_words.specs.declared.faults.WordCode.TheVariants.{A1, A2, A3, A4, A5, A6, A7, A8}
use Rattle.hot_words.specs.declared.texts.RefusalText.{RefusalText}
use Rattle.hot_words.specs.Places.{word_of}

-- the text of a refusal, by the word at its place and the word before it
abbrev pub code_text : WordCode → List ℕ → List ℕ → List ℕ
code_text A1 word before = codes "A1 no command"
code_text A2 word before = codes "A2 unknown command " ++ word
code_text A3 word before = codes "A3 unknown option " ++ word
code_text A4 word before = codes "A4 no value for " ++ word
code_text A5 word before = codes "A5 option given twice " ++ word
code_text A6 word before = codes "A6 bad value " ++ (word ++ (codes " for " ++ before))
code_text A7 word before = codes "A7 extra word " ++ word
code_text A8 word before = codes "A8 ratio above 1 with --moments 2"

-- the text of a refusal of words; a word that is not there is empty
abbrev pub word_text : List (List ℕ) → WordFault → List ℕ
word_text words fault = code_text fault.code (word_of words fault.place) (word_of words (fault.place - 1))

-- the pieces of a text, joined
abbrev pub refusal_text : RefusalText → List ℕ
refusal_text refusal = refusal.front.now ++ (refusal.word.now ++ (refusal.between.now ++ refusal.option.now))
