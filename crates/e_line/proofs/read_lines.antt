-- What is known of the lines that are read.
pub mod RawLinesByWord
pub mod LinesByWord
pub mod LitsByWord
pub mod ItemsOfWords
pub mod SumsOfLiterals
pub mod TitlesOfWords
