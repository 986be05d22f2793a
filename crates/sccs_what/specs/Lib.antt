pub mod Checks
pub mod Texts
pub mod Owed
pub mod SearchedFiles
pub mod WhatStep
